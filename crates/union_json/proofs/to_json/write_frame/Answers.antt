use Rattle.std.proofs.Common.{◌++◌, ap, ◌∙◌}
use Rattle.marc_json.specs.Values.{json_line}
use Rattle.union_json.proofs.AcceptedUtf8.{accepted-utf8}
use Rattle.union_json.proofs.to_json.write_frame.Goals as goal

pub to_json-requires : goal.to_json-requires
to_json-requires c = accepted-utf8 c.in-Ok.rec c.in-Ok.ensures.accepted

pub returns-in_ok-accept-in-Ok-clause-counted : goal.returns-in_ok-accept-in-Ok-clause-counted
returns-in_ok-accept-in-Ok-clause-counted c =
    c.in_ok-accept-in-Ok.ensures.counted (c.args.cut, c.args.frame.now) (
      c.in-Ok.ensures.first.0,
      (
        c.in-Ok.rec,
        c.in-Ok.ensures.first.1,
        c.as_slice.ensures.value ∙ c.in_ok-to_json-in-Ok.ensures.ok ∙ ap (λ t. t ++ json_line c.in-Ok.rec) c.in_ok-line-in-Ok.ensures.items,
      ),
    )
