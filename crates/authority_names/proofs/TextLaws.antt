-- What a table leads to is UTF-8 without the bytes that part, whatever is added.
use Rattle.std.proofs.Common.{◌≡◌, ℕ, Bool, true, false, List, [], if◌then◌else◌, ap, ◌∙◌, unwrap_or, None, Some, Option}
use Rattle.std.specs.Prelude.{find, count_by, ◌==◌}
use Rattle.std.specs.FinMap.{get}
use Rattle.std.specs.List.{list_any}
use Rattle.std.specs.Option.{option_and_then, option_map_or}
use Rattle.union_base.specs.declared.field.Field.{Field}
use Rattle.workset_keys.specs.Names.{name_of}
use Rattle.workset_keys.specs.Texts.{is_key_text}
use Rattle.workset_keys.proofs.KeyTexts.{key-nil, key-either, key-name}
use Rattle.authority_names.specs.Names.{is_same}
use Rattle.authority_names.specs.Leads.{Table, AreTexts, joined_lead}
use Rattle.authority_names.specs.Places.{HasPlaces}
use Rattle.authority_names.specs.declared.leads.Lead.TheVariants.{Nowhere, To}
use Rattle.authority_names.specs.Records.{is_heading, established_in}

-- the heading of a lead, empty where it has none
abbrev shown : Option (Option (List ℕ)) → List ℕ
shown lead = unwrap_or (option_and_then (λ l. l) lead) []

pub places-none : HasPlaces []
places-none x Nowhere found = tt
places-none x (To place) found = cc

-- a table that has nothing
pub texts-none : (table : Table) → ((x : List ℕ) → get table x ≡ None) → AreTexts table
texts-none table none x = ap (λ lead. is_key_text (shown lead)) (none x) ∙ key-nil

text-joined : (lead : Option (Option (List ℕ))) (t : List ℕ) → is_key_text (shown lead) ≡ true → is_key_text t ≡ true
    → is_key_text (shown (Some (joined_lead lead t))) ≡ true
text-joined None t h p = p
text-joined (Some None) t h p = key-nil
text-joined (Some (Some u)) t h p = elim (is_same u t) as (λ b. is_key_text (shown (Some (if b then Some u else None))) ≡ true) [ true ↦ h | false ↦ key-nil ]

text-if : (b : Bool) (one other : Option (Option (List ℕ))) → is_key_text (shown one) ≡ true → is_key_text (shown other) ≡ true
    → is_key_text (shown (if b then one else other)) ≡ true
text-if true one other p q = p
text-if false one other p q = q

-- an established heading leads nowhere, and the others lead where they did
pub texts-established : (heading : List ℕ) (old new : Table) → AreTexts old
    → ((x : List ℕ) → get new x ≡ (if is_same heading x then Some None else get old x)) → AreTexts new
texts-established heading old new h at x =
    ap (λ lead. is_key_text (shown lead)) (at x) ∙ text-if (is_same heading x) (Some None) (get old x) key-nil (h x)

-- the variants lead to a text
pub texts-led : (variants : List (List ℕ)) (t : List ℕ) (old new : Table) → AreTexts old → is_key_text t ≡ true
    → ((x : List ℕ) → get new x ≡ (if list_any (λ v. is_same v x) variants then Some (joined_lead (get old x) t) else get old x))
    → AreTexts new
texts-led variants t old new h p at x =
    ap (λ lead. is_key_text (shown lead)) (at x)
    ∙ text-if (list_any (λ v. is_same v x) variants) (Some (joined_lead (get old x) t)) (get old x) (text-joined (get old x) t (h x) p) (h x)

text-found : (found : Option Field) → is_key_text (option_map_or name_of found []) ≡ true
text-found None = key-nil
text-found (Some f) = key-name f

-- an established heading is a text
pub text-established_in : (fields : List Field) → is_key_text (established_in fields) ≡ true
text-established_in fields =
    key-either (count_by is_heading fields == 1) (option_map_or name_of (find is_heading fields) []) [] (text-found (find is_heading fields)) key-nil
