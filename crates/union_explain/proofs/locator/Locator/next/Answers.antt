use Rattle.std.proofs.Common.{◌≡◌, ◌+◌, ◌∙◌, ap, length, nat_lt, arith}
use Rattle.std.specs.Option.{option_to_list}
use Rattle.union_explain.specs.Readings.{ahead}
use Rattle.union_explain.proofs.LocateLaws.{Gathers-end, Gathers-more, Gives-ended, Gives-last}
use Rattle.union_explain.proofs.StopLaws.{goes-more}
use Rattle.union_explain.proofs.locator.Locator.next.Goals as goal

pub returns-in-None-clause-gives : goal.returns-in-None-clause-gives
returns-in-None-clause-gives g c =
    let now = ahead c.loop-self.self-inside.reader.unread (g.S.Source.left c.loop-self.source) in
    let after = ahead c.next.new.self.unread (g.S.Source.left c.next.new.source) in
    Gives-last (ahead c.args.self.now.unread (g.S.Source.left c.args.source.now)) now after
    c.args.self.now.at c.loop-self.self-inside.reader.at c.next.new.self.at c.loop-self.self-inside.frame (nat_lt 0 c.size.result)
    c.loop-self.invariant.gathers (rw c.in-None.is at c.in_ok-next.ensures.gives) (ap (λ n. nat_lt 0 n) c.size.ensures)

pub add-requires : goal.add-requires
add-requires g c = omega (arith, Gathers-end _ _ _ _ _ c.loop-self.invariant.gathers, c.loop-self.invariant.within)

pub returns-then-byte-eq-RECORD_TERMINATOR-clause-gives :
    goal.returns-then-byte-eq-RECORD_TERMINATOR-clause-gives
returns-then-byte-eq-RECORD_TERMINATOR-clause-gives g c =
    let now = ahead c.loop-self.self-inside.reader.unread (g.S.Source.left c.loop-self.source) in
    let after = ahead c.next.new.self.unread (g.S.Source.left c.next.new.source) in
    let moved : c.next.new.self.at ≡ c.loop-self.self-inside.reader.at + 1 =
    c.in_ok-next.ensures.at ∙ ap (λ byte. c.loop-self.self-inside.reader.at + length (option_to_list byte)) c.in-Some.is in
    Gives-ended (ahead c.args.self.now.unread (g.S.Source.left c.args.source.now)) now after
    c.args.self.now.at c.loop-self.self-inside.reader.at c.next.new.self.at c.loop-self.self-inside.frame c.add.new.self
    c.in-Some.byte c.loop-self.invariant.gathers (rw c.in-Some.is at c.in_ok-next.ensures.gives)
    c.if-byte-eq-RECORD_TERMINATOR.true moved c.in_ok-add-in-Some.ensures

pub loop-self-preserved : goal.loop-self-preserved
loop-self-preserved g c =
    let now = ahead c.loop-self.self-inside.reader.unread (g.S.Source.left c.loop-self.source) in
    let after = ahead c.next.new.self.unread (g.S.Source.left c.next.new.source) in
    let moved : c.next.new.self.at ≡ c.loop-self.self-inside.reader.at + 1 =
    c.in_ok-next.ensures.at ∙ ap (λ byte. c.loop-self.self-inside.reader.at + length (option_to_list byte)) c.in-Some.is in
    record {
      name = c.next.ensures.name ∙ c.loop-self.invariant.name;
      faults = c.in_ok-next.ensures.faults ∙ c.loop-self.invariant.faults;
      gathers = Gathers-more (ahead c.args.self.now.unread (g.S.Source.left c.args.source.now)) now after
          c.args.self.now.at c.loop-self.self-inside.reader.at c.next.new.self.at c.loop-self.self-inside.frame c.add.new.self
          c.in-Some.byte c.loop-self.invariant.gathers (rw c.in-Some.is at c.in_ok-next.ensures.gives)
          c.if-byte-eq-RECORD_TERMINATOR.false moved c.in_ok-add-in-Some.ensures;
      goes = goes-more c.args.self.now.at c.loop-self.self-inside.reader.at c.next.new.self.at (ahead c.args.self.now.unread (g.S.Source.left c.args.source.now)) now after
          c.loop-self.invariant.goes c.in_ok-next.ensures.goes;
      within = c.in_ok-next.ensures.within;
    }
