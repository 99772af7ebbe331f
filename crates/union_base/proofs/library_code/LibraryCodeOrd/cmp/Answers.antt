use Rattle.std.proofs.Common.{◌≡◌, sym, subst, ◌∙◌, take}
use Rattle.std.specs.Ordering.{nat_cmp}
use Rattle.std.specs.Cmp.Lexicographic.{slice_cmp, nat_list_cmp_total, bytes_decides}
use Rattle.std.proofs.lemmas.Cmp.{tied_itself}
use Rattle.union_base.proofs.library_code.LibraryCodeOrd.cmp.Goals as goal

pub returns-then-eq : goal.returns-then-eq
returns-then-eq c =
    let buffer : c.self.inside.buffer ≡ c.other.inside.buffer =
    (bytes_decides c.self.inside.buffer c.other.inside.buffer).0 (sym c.eq.ensures ∙ c.if-eq.true) in
    let size : c.self.inside.size ≡ c.other.inside.size = c.if-self-other.true in
    let same : c.args.self.now ≡ c.args.other.now =
    sym c.self.view_is ∙ (λ i. take (size i) (buffer i)) ∙ c.other.view_is in
    sym (subst (λ text. slice_cmp nat_cmp c.args.self.now text ≡ _) same (tied_itself nat_list_cmp_total c.args.self.now))
