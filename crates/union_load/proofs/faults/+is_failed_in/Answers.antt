use Rattle.std.proofs.Common.{◌-◌, ◌||◌, take, drop, length, rules, sym, ap, ◌∙◌}
use Rattle.union_load.proofs.FaultLaws.{library_of, libraries_behind, failed_first}
use Rattle.union_words.specs.Meanings.{libraries_meaning}
use Rattle.union_load.specs.Sessions.{courses_of, is_failed_in}
use Rattle.union_load.proofs.faults.+is_failed_in.Goals as goal

pub fails_on-requires : goal.fails_on-requires
fails_on-requires g t c =
    library_of g.S.Source.name c.args.sessions.now (libraries_meaning c.args.libraries.now) c.args.place c.session-item.result c.requires.libraries
    c.in-len1-up.len_at_least c.session-item.is

pub is_failed_in-requires : goal.is_failed_in-requires
is_failed_in-requires g t c =
    let behind = libraries_behind g.S.Source.name c.args.sessions.now (libraries_meaning c.args.libraries.now) c.args.place c.requires.libraries c.in-len1-up.len_at_least in
    search (rules, behind)

pub returns-then-fails_on : goal.returns-then-fails_on
returns-then-fails_on g t c =
    let sessions = c.args.sessions.now in
    let path = c.args.path.now in
    let rest = courses_of g.S.Source.name (take (length sessions - 1) (drop 1 sessions)) in
    c.if-fails_on.true
    ∙ sym (failed_first g.S.Source.name sessions c.session-item.result path c.in-len1-up.len_at_least c.session-item.is
    ∙ ap (λ failed. failed || is_failed_in rest path) (sym c.fails_on.ensures ∙ c.if-fails_on.true))

pub returns-else-fails_on : goal.returns-else-fails_on
returns-else-fails_on g t c =
    let sessions = c.args.sessions.now in
    let path = c.args.path.now in
    let rest = courses_of g.S.Source.name (take (length sessions - 1) (drop 1 sessions)) in
    c.is_failed_in.ensures
    ∙ sym (failed_first g.S.Source.name sessions c.session-item.result path c.in-len1-up.len_at_least c.session-item.is
    ∙ ap (λ failed. failed || is_failed_in rest path) (sym c.fails_on.ensures ∙ c.if-fails_on.false))
