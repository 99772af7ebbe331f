-- One frame more.
use Rattle.std.proofs.Common.{◌≡◌, ℕ, suc, ◌+◌, not, cond, List, [], ◌∷◌, ◌++◌, length, append_assoc, append-nil, sym, ap, ◌∙◌, arith, add-zero}
use Rattle.std.specs.Prelude.{None, Some, count_by, is_none}
use Rattle.std.proofs.lemmas.List.Concat.{flat_map-append}
use Rattle.std.proofs.lemmas.List.Elements.{All-push}
use Rattle.std.proofs.lemmas.List.Sums.{fold-append}
use Rattle.authority_names.specs.Leads.{Table}
use Rattle.names_file.specs.Judging.{Judged, IsSo, HasTaken}
use Rattle.names_file.specs.NamesFiles.{is_refused, taken_from, refused_line, line_of, lines_from, IsTally, IsReading}
use Rattle.names_file.specs.declared.fault.NameFault.{NameFault}
use Rattle.names_file.specs.declared.tally.Tally.{Tally}

lines_more : (n : ℕ) (all : List Judged) (one : Judged) → lines_from n (all ++ one ∷ []) ≡ lines_from n all ++ line_of (n + length all) one.fault
lines_more n [] one = append-nil (line_of n one.fault) ∙ ap (λ k. line_of k one.fault) (sym (add-zero n))
lines_more n (first ∷ all) one =
    let place : suc n + length all ≡ n + suc (length all) = omega arith in
    ap (λ rest. line_of n first.fault ++ rest) (lines_more (suc n) all one ∙ ap (λ k. lines_from (suc n) all ++ line_of k one.fault) place)
    ∙ sym (append_assoc (line_of n first.fault) (lines_from (suc n) all) (line_of (n + suc (length all)) one.fault))

count_more : (all : List Judged) (one : Judged) → count_by is_refused (all ++ one ∷ []) ≡ count_by is_refused all + cond (is_refused one) 1 0
count_more all one = fold-append (λ (a : ℕ) x. a + cond (is_refused x) 1 0) 0 all (one ∷ [])

-- one that is read
pub count_read : (all : List Judged) (one : Judged) → one.fault ≡ None → count_by is_refused (all ++ one ∷ []) ≡ count_by is_refused all
count_read all one none =
    count_more all one ∙ ap (λ fault. count_by is_refused all + cond (not (is_none fault)) 1 0) none ∙ add-zero (count_by is_refused all)

pub lines_read : (all : List Judged) (one : Judged) → one.fault ≡ None → lines_from 1 (all ++ one ∷ []) ≡ lines_from 1 all
lines_read all one none =
    lines_more 1 all one ∙ ap (λ fault. lines_from 1 all ++ line_of (1 + length all) fault) none ∙ append-nil (lines_from 1 all)

-- one that is refused
pub count_refused : (all : List Judged) (one : Judged) (fault : NameFault) → one.fault ≡ Some fault
    → count_by is_refused (all ++ one ∷ []) ≡ count_by is_refused all + 1
count_refused all one fault is = count_more all one ∙ ap (λ fault. count_by is_refused all + cond (not (is_none fault)) 1 0) is

pub lines_refused : (all : List Judged) (one : Judged) (fault : NameFault) (number : ℕ) → number ≡ length all + 1 → one.fault ≡ Some fault
    → lines_from 1 (all ++ one ∷ []) ≡ lines_from 1 all ++ refused_line number fault
lines_refused all one fault number next is =
    let place : 1 + length all ≡ number = omega arith in
    lines_more 1 all one ∙ ap (λ fault. lines_from 1 all ++ line_of (1 + length all) fault) is
    ∙ ap (λ k. lines_from 1 all ++ refused_line k fault) place

-- one frame more was judged, taken and counted
pub reading_more : (all : List Judged) (one : Judged) (table now : Table) (tally counted : Tally) → IsReading all table tally → IsSo one
    → HasTaken table one.taken now → IsTally (all ++ one ∷ []) counted → IsReading (all ++ one ∷ []) now counted
reading_more all one table now tally counted before judged takes tallied = record {
  judged = All-push IsSo all one before.judged judged;
  table_is =
      rw (flat_map-append (λ (one : Judged). one.taken) all (one ∷ []), append-nil one.taken)
      (takes (taken_from all) before.table_is);
  tallied = tallied;
}
