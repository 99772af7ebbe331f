-- The inputs of a run, where nothing failed under their names and none of them is too long.
use Rattle.std.proofs.Common.{◌≡◌, ℕ, ◌≤◌, false, List, [], ◌∷◌, inl, inr, sym, ap, subst, ◌∙◌}
use Rattle.std.specs.Prelude.{Option, Some, None, IfSome, nat_lt}
use Rattle.std.specs.Option.{option_map}
use Rattle.std.proofs.lemmas.Bool.{le-ltb}
use Rattle.union_io.specs.Causes.{Rose}
use Rattle.union_words.specs.Flows.{ShelfFlow, InputFile, IsOneOf, FailsAt, NoneFails}
use Rattle.union_words.specs.declared.input.Input.{Input}
use Rattle.union_files.specs.Limits.{Contents, AreWithin, IsTooLongAt}

-- what follows for the files that are told
pub on_files : {P Q : Contents → Type 0} (files : Option Contents) → ((contents : Contents) → P contents → Q contents) → IfSome files P → IfSome files Q
on_files None follows holds = tt
on_files (Some contents) follows holds = follows contents holds

pub on_both : {P Q R : Contents → Type 0} (files : Option Contents) → ((contents : Contents) → P contents → Q contents → R contents)
    → IfSome files P → IfSome files Q → IfSome files R
on_both None follows one two = tt
on_both (Some contents) follows one two = follows contents one two

pub on_all : {P : Contents → Type 0} (files : Option Contents) → ((contents : Contents) → P contents) → IfSome files P
on_all None holds = tt
on_all (Some contents) holds = holds contents

-- a file that is not too long
pub not_over : (limit n : ℕ) → n ≤ limit → nat_lt limit n ≡ false
not_over limit n fits = le-ltb limit n fits

-- something failed under one of the names, so it is not so that nothing did
none_at : (shelf : ShelfFlow) (file : InputFile) (inputs : List InputFile) → IsOneOf file inputs → NoneFails inputs shelf
    → ¬ Rose (shelf.before file.path) (shelf.after file.path)
none_at shelf file [] one none = absurd one
none_at shelf file (first ∷ rest) (inl is) none = subst (λ f. ¬ Rose (shelf.before f.path) (shelf.after f.path)) (sym is) none.0
none_at shelf file (first ∷ rest) (inr more) none = none_at shelf file rest more none.1

pub none_fails : (inputs : List InputFile) (shelf : ShelfFlow) (input : Input) → FailsAt inputs shelf input → NoneFails inputs shelf → ⊥
none_fails inputs shelf input fails none = none_at shelf fails.file inputs fails.one none fails.failed

pub told : (P : Contents → Type 0) (files : Option Contents) (contents : Contents) → files ≡ Some contents → IfSome files P → P contents
told P files contents is holds = subst (λ fs. IfSome fs P) is holds

pub within_none : (contents : Contents) (inputs : List InputFile) (input : Input) → AreWithin contents inputs → IsTooLongAt contents inputs input → ⊥
within_none contents inputs input within found =
    let clash : None ≡ Some input = sym (ap (option_map (λ (file : InputFile). file.input)) within) ∙ found in cc
