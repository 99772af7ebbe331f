use Rattle.std.proofs.Common.{◌≡◌, ◌%◌, ◌<◌, ◌∷◌, [], List, length, map, sym, ap, subst, arith}
use Rattle.std.proofs.lemmas.List.{length-map}
use Rattle.key_groups.proofs.Noting.{get_note}
use Rattle.key_groups.proofs.Grouping.{put_last}
use Rattle.key_groups.specs.declared.notes.Noted.{Noted}
use Rattle.key_groups.specs.Notes.{GetNotes}
use Rattle.key_groups.proofs.notes.note.Goals as goal

pub returns : goal.returns
returns c =
    let parts = c.args.parts.now in
    let lists = map (λ part. part.items) parts in
    let part = c.args.noted.hash % length parts in
    let size = length-map parts (λ part. part.items) in
    let within : part < length parts = omega (arith, c.requires) in
    subst (λ (new : List (List Noted)). GetNotes lists new (λ h. c.args.noted.hash ≡ h) c.args.noted.place)
    (sym (put_last parts part c.index-parts-part.result c.push.new.self (c.args.noted ∷ []) (λ part. part.items) within c.in_ok-push.ensures.items))
    (get_note lists part c.args.noted (omega (arith, within, size)) (ap (λ n. c.args.noted.hash % n) size))
