use Rattle.std.proofs.Common.{◌+◌, length, ◌≤◌, sym, ap, ◌∙◌, drop_of_length-le, encode_utf8_all, arith}
use Rattle.std.specs.Char.{is_ascii_alphanumeric}
use Rattle.std.specs.List.{list_any}
use Rattle.naco_normal.specs.Normal.{spaced}
use Rattle.naco_normal.specs.Words.{joined}
use Rattle.naco_normal.proofs.WordsLemmas.{read_on, read_on-spaced}
use Rattle.naco_normal.proofs.AsciiLemmas.{ascii_letters, read_kept, read_deleted, read_blank, read_comma, letters-ascii, slice_rest}
use Rattle.naco_normal.proofs.ascii.append_ascii.Goals as goal

pub loop-place-preserved-then-letter-gt-BLANK : goal.loop-place-preserved-then-letter-gt-BLANK
loop-place-preserved-then-letter-gt-BLANK c =
    let at = c.loop-place in
    record {
      form = read_kept at.form.items c.push_shown_byte.new.form.items at.gap at.awaiting c.args.text.now at.place c.read_as-letter.result c.requires c.loop-place-test.true c.read_as-letter.ensures
          c.if-letter-gt-BLANK.true c.push_shown_byte.ensures.items ∙ at.invariant.form;
      room = omega (arith, at.invariant.room, c.push_shown_byte.ensures.room, c.push_shown_byte.ensures.capacity);
    }

pub loop-place-preserved-then-letter-ne-BLANK : goal.loop-place-preserved-then-letter-ne-BLANK
loop-place-preserved-then-letter-ne-BLANK c =
    let at = c.loop-place in
    record {
      form = read_deleted at.form.items at.gap at.awaiting c.args.text.now at.place c.read_as-letter.result c.requires c.loop-place-test.true c.read_as-letter.ensures
          c.if-letter-gt-BLANK.false c.if-letter-ne-BLANK.true ∙ at.invariant.form;
      room = omega (arith, at.invariant.room);
    }

pub loop-place-preserved-then-not-awaited : goal.loop-place-preserved-then-not-awaited
loop-place-preserved-then-not-awaited c =
    let at = c.loop-place in
    record {
      form = read_blank at.form.items at.gap at.awaiting c.args.text.now at.place c.read_as-letter.result c.requires c.loop-place-test.true
          c.read_as-letter.ensures c.if-letter-ne-BLANK.false c.if-not-awaited.true ∙ at.invariant.form;
      room = omega (arith, at.invariant.room);
    }

pub loop-place-preserved : goal.loop-place-preserved
loop-place-preserved c =
    let at = c.loop-place in
    let put = c.push_shown_byte-in-loop-place in
    record {
      form = read_comma at.form.items put.new.form.items at.gap at.awaiting c.args.text.now at.place c.read_as-letter.result c.has_letter_or_digit-shown.result c.requires c.loop-place-test.true
          c.read_as-letter.ensures c.if-letter-ne-BLANK.false c.if-not-awaited.false
          (c.has_letter_or_digit-shown.ensures ∙ ap (list_any is_ascii_alphanumeric) (slice_rest c.args.text.now (at.place + 1)))
          put.ensures.items ∙ at.invariant.form;
      room = omega (arith, at.invariant.room, put.ensures.room, put.ensures.capacity);
    }

pub returns : goal.returns
returns c =
    let all : length c.args.text.now ≤ c.loop-place.place = omega arith in
    sym (ap (λ l. read_on c.loop-place.form.items c.loop-place.gap c.loop-place.awaiting (ascii_letters l)) (drop_of_length-le c.args.text.now all))
    ∙ c.loop-place.invariant.form
    ∙ read_on-spaced c.args.comma (ascii_letters c.args.text.now) c.args.form.now.items
    ∙ ap (λ l. joined c.args.form.now.items (encode_utf8_all (spaced c.args.comma l))) (sym (letters-ascii c.args.text.now c.requires))
