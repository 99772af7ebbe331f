-- Tests that say whether two values are equal.
use Rattle.std.proofs.Common.{◌≡◌, Bool, true, false, ◌&&◌, IsTrue, List, refl, sym, ap, subst, ◌∙◌}
use Rattle.std.specs.Prelude.{◌↔◌}
use Rattle.std.specs.declared.cmp.Ordering.{Ordering}
use Rattle.std.specs.declared.cmp.Ordering.TheVariants.{Less, Equal, Greater}
use Rattle.std.specs.Ordering.{is_eq, ordering_reverse}
use Rattle.std.specs.Cmp.{IsTotalOrder}
use Rattle.std.specs.FinMap.{IsAntisymmetric}
use Rattle.union_base.specs.Both.{both_true, true_both}

eq-is : (r : Ordering) → is_eq r ≡ true → r ≡ Equal
eq-is Less h = cc
eq-is Equal h = refl
eq-is Greater h = cc

own-reverse : (r : Ordering) → r ≡ ordering_reverse r → r ≡ Equal
own-reverse Less h = cc
own-reverse Equal h = refl
own-reverse Greater h = cc

-- by a total order in which only equal values tie, two values tie where they are equal
pub same-by : {K : Type 0} (R : K → K → Ordering) → IsTotalOrder R → IsAntisymmetric R → (x y : K) (b : Bool) → b ≡ is_eq (R x y) → IsTrue b ↔ (x ≡ y)
same-by R order ties x y b is = (
  λ h. ties x y (eq-is (R x y) (sym is ∙ h)),
  λ e. is ∙ ap is_eq (ap (R x) (sym e) ∙ own-reverse (R x x) (order.antisymm x x)),
)

-- tests that all hold
pub seven-each : (a b c d e f g : Bool) → IsTrue ((((((a && b) && c) && d) && e) && f) && g) → IsTrue a × IsTrue b × IsTrue c × IsTrue d × IsTrue e × IsTrue f × IsTrue g
seven-each a b c d e f g t0 =
    let t1 = both_true (((((a && b) && c) && d) && e) && f) g t0 in
    let t2 = both_true ((((a && b) && c) && d) && e) f t1.0 in
    let t3 = both_true (((a && b) && c) && d) e t2.0 in
    let t4 = both_true ((a && b) && c) d t3.0 in
    let t5 = both_true (a && b) c t4.0 in
    let t6 = both_true a b t5.0 in
    (t6.0, t6.1, t5.1, t4.1, t3.1, t2.1, t1.1)

pub seven-all : (a b c d e f g : Bool) → IsTrue a → IsTrue b → IsTrue c → IsTrue d → IsTrue e → IsTrue f → IsTrue g → IsTrue ((((((a && b) && c) && d) && e) && f) && g)
seven-all a b c d e f g pa pb pc pd pe pf pg =
    (true_both (((((a && b) && c) && d) && e) && f) g (true_both ((((a && b) && c) && d) && e) f (true_both (((a && b) && c) && d) e (true_both ((a && b) && c) d (true_both (a && b) c (true_both a b pa pb) pc) pd) pe) pf) pg)

pub nine-each : (a b c d e f g h i : Bool) → IsTrue ((((((((a && b) && c) && d) && e) && f) && g) && h) && i) → IsTrue a × IsTrue b × IsTrue c × IsTrue d × IsTrue e × IsTrue f × IsTrue g × IsTrue h × IsTrue i
nine-each a b c d e f g h i t0 =
    let t1 = both_true (((((((a && b) && c) && d) && e) && f) && g) && h) i t0 in
    let t2 = both_true ((((((a && b) && c) && d) && e) && f) && g) h t1.0 in
    let t3 = both_true (((((a && b) && c) && d) && e) && f) g t2.0 in
    let t4 = both_true ((((a && b) && c) && d) && e) f t3.0 in
    let t5 = both_true (((a && b) && c) && d) e t4.0 in
    let t6 = both_true ((a && b) && c) d t5.0 in
    let t7 = both_true (a && b) c t6.0 in
    let t8 = both_true a b t7.0 in
    (t8.0, t8.1, t7.1, t6.1, t5.1, t4.1, t3.1, t2.1, t1.1)

pub nine-all : (a b c d e f g h i : Bool) → IsTrue a → IsTrue b → IsTrue c → IsTrue d → IsTrue e → IsTrue f → IsTrue g → IsTrue h → IsTrue i → IsTrue ((((((((a && b) && c) && d) && e) && f) && g) && h) && i)
nine-all a b c d e f g h i pa pb pc pd pe pf pg ph pi =
    (true_both (((((((a && b) && c) && d) && e) && f) && g) && h) i (true_both ((((((a && b) && c) && d) && e) && f) && g) h (true_both (((((a && b) && c) && d) && e) && f) g (true_both ((((a && b) && c) && d) && e) f (true_both (((a && b) && c) && d) e (true_both ((a && b) && c) d (true_both (a && b) c (true_both a b pa pb) pc) pd) pe) pf) pg) ph) pi)
