-- Values that are opened, one after the other.
use Rattle.std.proofs.Common.{◌≡◌, List, [], ◌∷◌, ◌++◌, None, append_assoc, append-nil, refl, sym, ◌∙◌, ap, subst, inl, inr, arith}
use Rattle.std.proofs.lemmas.List.{map-append}
use Rattle.std.proofs.lemmas.List.Elements.{Contains-push_cases}
use Rattle.swoosh_resolver.specs.Tables.{Entry}
use Rattle.swoosh_resolver.specs.Splits.{Opens}

pub opens_none : {R K : Type 0} (opened : List (Entry R K)) → Opens opened [] opened
opens_none opened = record { fresh = []; last = sym (append-nil opened); are = refl; free = λ e (k, kl, is). absurd (omega arith) }

pub opens_more : {R K : Type 0} (opened : List (Entry R K)) (values : List R) (now : List (Entry R K)) (e : Entry R K) (v : R) → Opens opened values now → e.value ≡ v → e.base ≡ None → Opens opened (values ++ v ∷ []) (now ++ e ∷ [])
opens_more {R} {K} opened values now e v o is free = record {
  fresh = o.fresh ++ e ∷ [];
  last = ap (λ xs. xs ++ e ∷ []) o.last ∙ append_assoc opened o.fresh (e ∷ []);
  are = map-append (λ (e : Entry R K). e.value) o.fresh (e ∷ []) ∙ ap (λ xs. xs ++ e.value ∷ []) o.are ∙ ap (λ x. values ++ x ∷ []) is;
  free = λ f c. elim (Contains-push_cases o.fresh e f c) as (λ _. f.base ≡ None) [
    | inl before ↦ o.free f before
    | inr same ↦ subst (λ (z : Entry R K). z.base ≡ None) same free
  ];
}
