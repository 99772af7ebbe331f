use Rattle.std.proofs.Common.{◌≡◌, ◌++◌, List, [], map, sym, ap, ap₂, ◌∙◌, subst}
use Rattle.std.proofs.lemmas.List.{take-append-drop, map-append}
use Rattle.merge_laws.specs.Resolution.{IsResolution}
use Rattle.key_groups.specs.Groups.{AreCutApart, together}
use Rattle.swoosh_halves.proofs.halves.+shares.Goals as goal

-- the groups of each share are cut apart
pub resolve_groups-resolve_shares-requires-clause-front : goal.resolve_groups-resolve_shares-requires-clause-front
resolve_groups-resolve_shares-requires-clause-front g t c = λ lifetimes outlive.
    let front = c.split_off.new.self.items in
    let back = c.in_ok-back.back.items in
    let whole : front ++ back ≡ c.args.groups.items = ap₂ ◌++◌ c.in_ok-back.ensures.items c.in_ok-back.ensures.tail ∙ take-append-drop _ c.args.groups.items in
    let lists : map (λ group. group.items) c.args.groups.items ≡ map (λ group. group.items) front ++ map (λ group. group.items) back =
    ap (map (λ group. group.items)) (sym whole) ∙ map-append (λ group. group.items) front back in
    let cut : AreCutApart g.R.Resolvable.has_key [] (map (λ group. group.items) front ++ map (λ group. group.items) back) =
    subst (λ (l : List (List g.row.R.Denot)). AreCutApart g.R.Resolvable.has_key [] l) lists c.requires.apart in
    c.shares_stand_beside.ensures.front (map (λ group. group.items) front) (map (λ group. group.items) back) cut

pub resolve_groups-resolve_shares-requires-clause-back : goal.resolve_groups-resolve_shares-requires-clause-back
resolve_groups-resolve_shares-requires-clause-back g t c = λ lifetimes outlive.
    let front = c.split_off.new.self.items in
    let back = c.in_ok-back.back.items in
    let whole : front ++ back ≡ c.args.groups.items = ap₂ ◌++◌ c.in_ok-back.ensures.items c.in_ok-back.ensures.tail ∙ take-append-drop _ c.args.groups.items in
    let lists : map (λ group. group.items) c.args.groups.items ≡ map (λ group. group.items) front ++ map (λ group. group.items) back =
    ap (map (λ group. group.items)) (sym whole) ∙ map-append (λ group. group.items) front back in
    let cut : AreCutApart g.R.Resolvable.has_key [] (map (λ group. group.items) front ++ map (λ group. group.items) back) =
    subst (λ (l : List (List g.row.R.Denot)). AreCutApart g.R.Resolvable.has_key [] l) lists c.requires.apart in
    c.shares_stand_beside.ensures.back (map (λ group. group.items) front) (map (λ group. group.items) back) cut

-- what resolves the groups of the two shares resolves all groups
pub resolve_groups-returns : goal.resolve_groups-returns
resolve_groups-returns g t c =
    let front = c.split_off.new.self.items in
    let back = c.in_ok-back.back.items in
    let whole : front ++ back ≡ c.args.groups.items = ap₂ ◌++◌ c.in_ok-back.ensures.items c.in_ok-back.ensures.tail ∙ take-append-drop _ c.args.groups.items in
    let lists : map (λ group. group.items) c.args.groups.items ≡ map (λ group. group.items) front ++ map (λ group. group.items) back =
    ap (map (λ group. group.items)) (sym whole) ∙ map-append (λ group. group.items) front back in
    let cut : AreCutApart g.R.Resolvable.has_key [] (map (λ group. group.items) front ++ map (λ group. group.items) back) =
    subst (λ (l : List (List g.row.R.Denot)). AreCutApart g.R.Resolvable.has_key [] l) lists c.requires.apart in
    rw c.in_ok-append.ensures.items
    (subst (λ (l : List (List g.row.R.Denot)). IsResolution g.R.Resolvable.meets g.R.Join.join (together l) (c.in_ok-all.all.items ++ c.in_ok-all.rest.items)) (sym lists)
    (c.shares_stand_beside.ensures.beside (map (λ group. group.items) front) (map (λ group. group.items) back) c.in_ok-all.all.items c.in_ok-all.rest.items cut
    c.in_ok-all.ensures.front c.in_ok-all.ensures.back))
