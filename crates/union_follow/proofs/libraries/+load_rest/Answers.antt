use Rattle.std.proofs.Common.{◌∷◌, sym, subst}
use Rattle.std.specs.Prelude.{Err}
use Rattle.union_files.specs.Inputs.{files_of, state_of, states_of}
use Rattle.union_follow.proofs.FollowLaws.{halts_read, halts_stopped}
use Rattle.union_follow.proofs.UnionLaws.{below_none}
use Rattle.union_follow.specs.Turning.{AreTurnedFrom, AreUnread, HaltsIn}
use Rattle.union_follow.proofs.libraries.+load_rest.Goals as goal

pub load_file-requires-clause-new : goal.load_file-requires-clause-new
load_file-requires-clause-new g t c = below_none c.args.place c.args.load.now.catalogue.history c.requires.below

pub returns-in-Ok-clause-halts : goal.returns-in-Ok-clause-halts
returns-in-Ok-clause-halts g t c = λ told.
    let state = state_of g.S.Source.name g.S.Source.left g.S.Source.faults in
    let states = states_of g.S.Source.name g.S.Source.left g.S.Source.faults in
    let ended = c.load_rest-ended.result in
    let place = c.args.place in
    let history = c.args.load.now.catalogue.history in
    let after = c.load_rest-ended.new.load.catalogue.history in
    let old = c.args.load.now.reports in
    let texts = c.load_rest-ended.new.load.reports in
    let file = c.in-Some.file in
    let rest = c.pop_front.new.self.items in
    subst (λ items. AreUnread told (states items) → HaltsIn ended place told (states items) (states c.push_front_reserved.new.self.items)
    (λ contents. AreTurnedFrom contents place (files_of (states items)) history after old texts)) (sym c.in-Some.ensures.items)
    (subst (λ items. AreUnread told (states (file ∷ rest)) → HaltsIn ended place told (states (file ∷ rest)) (states items)
    (λ contents. AreTurnedFrom contents place (files_of (states (file ∷ rest))) history after old texts)) (sym c.push_front_reserved.ensures.items)
    (λ unread. halts_read ended place told (state file) (state c.load_file.new.file) (states rest) (states c.load_rest-ended.new.opened.items)
    history c.load_file.new.load.catalogue.history after old c.load_file.new.load.reports texts
    unread c.in-Ok.ensures.reads (c.load_rest-ended.ensures.halts told)))

pub returns-in-Err-clause-halts : goal.returns-in-Err-clause-halts
returns-in-Err-clause-halts g t c = λ told.
    let state = state_of g.S.Source.name g.S.Source.left g.S.Source.faults in
    let states = states_of g.S.Source.name g.S.Source.left g.S.Source.faults in
    let stop = c.in-Err.stop in
    let place = c.args.place in
    let file = c.in-Some.file in
    let rest = c.pop_front.new.self.items in
    let history = c.args.load.now.catalogue.history in
    let after = c.load_file.new.load.catalogue.history in
    let old = c.args.load.now.reports in
    let texts = c.load_file.new.load.reports in
    subst (λ items. AreUnread told (states items) → HaltsIn {T = Unit {0}} (Err (record { place = place; stop = stop })) place told (states items)
    (states c.push_front_reserved-in-Err.new.self.items) (λ contents. AreTurnedFrom contents place (files_of (states items)) history after old texts)) (sym c.in-Some.ensures.items)
    (subst (λ items. AreUnread told (states (file ∷ rest)) → HaltsIn {T = Unit {0}} (Err (record { place = place; stop = stop })) place told
    (states (file ∷ rest)) (states items) (λ contents. AreTurnedFrom contents place (files_of (states (file ∷ rest))) history after old texts)) (sym c.push_front_reserved-in-Err.ensures.items)
    (λ unread. halts_stopped stop place told (state file) (state c.load_file.new.file) (states rest) (λ contents. AreTurnedFrom contents place (files_of (states (file ∷ rest))) history after old texts)
    unread c.in-Err.ensures.reads))
