use Rattle.std.proofs.Common.{◌≡◌, ◌∷◌, [], ◌++◌, refl, sym, ap, subst, ◌∙◌, append_assoc}
use Rattle.std.specs.Prelude.{IfSome}
use Rattle.union_words.specs.Lines.{lines_of}
use Rattle.union_script.specs.Lines.{HasRun, LinesStop}
use Rattle.union_script.specs.Texts.{asked_by, script_of, told_from, told_after}
use Rattle.union_files.proofs.FileLaws.{flow, same_more}
use Rattle.union_script.proofs.StopLaws.{outflow, stop_more, stop_behind}
use Rattle.union_script.proofs.TextLaws.{asked_behind, told_behind, run_none, run_behind}
use Rattle.union_files.proofs.LimitLaws.{on_all, on_both}
use Rattle.union_script.proofs.lines.run_lines.Goals as goal

pub loop-line-init : goal.loop-line-init
loop-line-init g c = record {
  files = refl;
  calm = λ name. refl;
  sound = refl;
  first = [];
  parts =
      ap (λ told. told_from told (asked_by (lines_of c.args.script.now))) (sym c.requires)
      ∙ ap (λ lines. told_from c.args.union.now.told (asked_by lines)) (sym c.of-lines.ensures);
  run = on_all (g.F.Shelf.files c.args.shelf.now) (λ contents. run_none contents c.args.union.now.catalogue.history (g.O.Sink.written c.args.out.now));
}

pub loop-line-preserved : goal.loop-line-preserved
loop-line-preserved g c =
    let before = c.loop-line.invariant in
    let line = c.in-Some.line.now in
    let rest = c.next.new.self in
    let files = g.F.Shelf.files c.args.shelf.now in
    let old = g.O.Sink.written c.args.out.now in
    let mid = g.O.Sink.written c.loop-line.out in
    let new = g.O.Sink.written c.run_unskipped.new.out in
    let history = c.args.union.now.catalogue.history in
    let between = c.loop-line.union.catalogue.history in
    let now = c.run_unskipped.new.union.catalogue.history in
    let told = c.in-Ok.told in
    let tells = c.loop-line.union.told in
    let asked = asked_by (line ∷ []) in
    let one = told_from tells asked in
    let run : IfSome files (λ contents. HasRun contents one between now told mid new)
    = subst (λ files. IfSome files (λ contents. HasRun contents one between now told mid new)) before.files c.in-Ok.ensures.run.2 in
    record {
      files = c.in-Ok.ensures.files ∙ before.files;
      calm = same_more (g.F.Shelf.faults c.args.shelf.now) (g.F.Shelf.faults c.loop-line.shelf) (g.F.Shelf.faults c.run_unskipped.new.shelf) before.calm c.in-Ok.ensures.run.0;
      sound = c.in-Ok.ensures.run.1 ∙ before.sound;
      first = before.first ++ one;
      parts =
          before.parts ∙ ap (λ lines. before.first ++ told_from tells (asked_by lines)) c.in-Some.ensures
          ∙ ap (λ all. before.first ++ told_from tells all) (asked_behind (line ∷ []) rest)
          ∙ ap (λ all. before.first ++ all) (told_behind tells asked (asked_by rest))
          ∙ ap (λ then. before.first ++ (one ++ told_from then (asked_by rest))) (sym c.in-Ok.ensures.told)
          ∙ sym (append_assoc before.first one (told_from c.run_unskipped.new.union.told (asked_by rest)));
      run =
          on_both files (λ contents first two. subst (λ refused. HasRun contents (before.first ++ one) history now refused old new) (sym c.either-refused.ensures)
          (run_behind contents before.first one history between now c.loop-line.refused told old mid new first two)) before.run run;
    }

pub returns-in-Err : goal.returns-in-Err
returns-in-Err g c =
    let before = c.loop-line.invariant in
    let line = c.in-Some.line.now in
    let rest = c.next.new.self in
    let files = g.F.Shelf.files c.args.shelf.now in
    let old = g.O.Sink.written c.args.out.now in
    let mid = g.O.Sink.written c.loop-line.out in
    let new = g.O.Sink.written c.run_unskipped.new.out in
    let x = g.O.Sink.faults c.args.out.now in
    let y = g.O.Sink.faults c.loop-line.out in
    let z = g.O.Sink.faults c.run_unskipped.new.out in
    let a = g.F.Shelf.faults c.args.shelf.now in
    let b = g.F.Shelf.faults c.loop-line.shelf in
    let d = g.F.Shelf.faults c.run_unskipped.new.shelf in
    let history = c.args.union.now.catalogue.history in
    let between = c.loop-line.union.catalogue.history in
    let status = c.in-Err.status in
    let tells = c.loop-line.union.told in
    let asked = asked_by (line ∷ []) in
    let one = told_from tells asked in
    let others = told_from (told_after tells asked) (asked_by rest) in
    let stops : LinesStop status one between (flow files b d) (outflow mid new y z)
    = subst (λ files. LinesStop status one between (flow files b d) (outflow mid new y z)) before.files c.in-Err.ensures.run in
    let parts : script_of c.args.script.now ≡ before.first ++ (one ++ others)
    = before.parts ∙ ap (λ lines. before.first ++ told_from tells (asked_by lines)) c.in-Some.ensures
    ∙ ap (λ all. before.first ++ told_from tells all) (asked_behind (line ∷ []) rest)
    ∙ ap (λ all. before.first ++ all) (told_behind tells asked (asked_by rest)) in
    record {
      run =
          subst (λ lines. LinesStop status lines history (flow files a d) (outflow old new x z)) (sym parts)
          (stop_behind status before.first (one ++ others) history between c.loop-line.refused files a b d old mid new x y z before.calm before.sound before.run
          (stop_more status one others between (flow files b d) (outflow mid new y z) stops));
    }
