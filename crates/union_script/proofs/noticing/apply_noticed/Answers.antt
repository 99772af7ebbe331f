use Rattle.std.proofs.Common.{◌≡◌, ◌+◌, ◌++◌, ◌∷◌, [], length, refl, ap, subst, ◌∙◌, length-append}
use Rattle.catalogue_core.specs.Histories.{AreEditionsOf}
use Rattle.edition_blocks.specs.Deltas.{IsDelta}
use Rattle.union_script.specs.Notices.{notice_text, with_turn}
use Rattle.union_script.proofs.noticing.apply_noticed.Goals as goal

pub returns-clause-notice : goal.returns-clause-notice
returns-clause-notice g c =
    let history = c.args.catalogue.now.history in
    let batch = c.args.batch in
    let was = c.edition_count-before.ensures in
    let is = c.edition_count-after.ensures in
    let held = c.resolutions_can_be_held.ensures in
    let closed = c.in_ok-found.delta.closed.items in
    let opened = c.in_ok-found.delta.opened.items in
    let appended : c.apply_told.new.self.history ≡ with_turn history batch = c.in_ok-found.ensures.appended in
    let delta : IsDelta was.0 is.0 closed opened = c.in_ok-found.ensures.delta was.0 is.0 was.1 is.1 in
    let turn : c.turns.result ≡ length history + 1
    = c.turns.ensures.value ∙ ap length appended ∙ length-append history (record { pass = 0; batch = batch } ∷ []) in (
      notice_text (length history + 1) was.0 is.0 closed opened,
      record {
        before = was.0;
        after = is.0;
        were = was.1;
        are = subst (λ h. AreEditionsOf h is.0) appended is.1;
        closed = closed;
        opened = opened;
        delta = delta;
        notice = refl;
      },
      c.in_ok-add_notice.ensures was.0 is.0 (held _ was.0 was.1) (held _ is.0 is.1) delta
          ∙ ap (λ n. c.args.text.now.items ++ notice_text n was.0 is.0 closed opened) turn,
    )
