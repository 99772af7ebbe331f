-- The keys that a value has beside those of its base, and all its keys.
use Rattle.std.proofs.Common.{◌≡◌, ◌≢◌, ℕ, zero, suc, Bool, true, false, List, [], ◌∷◌, ◌++◌, Option, None, Some, refl, subst, inl, inr, arith}
use Rattle.std.specs.Prelude.{◌↔◌, AllPairs, Contains, IsSome, IfSome, map}
use Rattle.std.specs.Cmp.{IsEquivalence}
use Rattle.std.specs.List.{list_any}
use Rattle.std.proofs.lemmas.List.Elements.{Contains-append_cases, Contains-append_left, Contains-append_right, filter_map-append}
use Rattle.merge_laws.proofs.Places.{AllPairs-append, Contains-head, Contains-tail}
use Rattle.feature_index.specs.Postings.{Posting, key_at}
use Rattle.swoosh_resolver.specs.Tables.{Base, Entry, AreKeys, ArePlaced, Has, HasOwn, IsOnBase, IsPlaced, OwnKey, keys_at, places_at}
use Rattle.swoosh_resolver.specs.Changes.{base_places, whole_at}
use Rattle.swoosh_resolver.proofs.Keys.{there-from_found, absent-from_missed}

module _ {R K : Type 0} (has_key : R → K → Type 0) (value : R) (keys : List K) where
  -- with no base all keys are the value's own
  pub own-all : ((k : K) → Contains keys k ↔ has_key value k) → AllPairs (λ j k. j ≢ k) keys → AreKeys (OwnKey has_key value None) keys
  own-all members once = record {
    members = λ k. (λ c. ((members k).0 c, tt), λ own. (members k).1 own.0);
    once = once;
  }

module _ {R K : Type 0} (has_key : R → K → Type 0) {eq : K → K → Bool} (laws : IsEquivalence eq) (exact : (j k : K) → eq j k ≡ true → j ≡ k) (postings : List (K × Posting)) where
  -- the value has the keys of its base, and its own
  placed-both : (value : R) (b : Base R) (ps own : List ℕ) → IsPlaced (has_key b.value) postings ps → IsPlaced (OwnKey has_key value (Some b)) postings own → ((k : K) → has_key b.value k → has_key value k)
      → IsPlaced (has_key value) postings (ps ++ own)
  placed-both value b ps own base placed keeps = record {
    rows = λ place c. elim (Contains-append_cases ps own place c) as (λ _. IsSome (key_at postings place)) [ inl first ↦ base.rows place first | inr second ↦ placed.rows place second ];
    keys = rw (filter_map-append (key_at postings) ps own) (record {
      members = λ k. (
        λ c. elim (Contains-append_cases (keys_at postings ps) (keys_at postings own) k c) as (λ _. has_key value k) [
          | inl first ↦ keeps k ((base.keys.members k).0 first)
          | inr second ↦ ((placed.keys.members k).0 second).0
        ],
        λ has. elim (list_any (λ y. eq y k) (keys_at postings ps)) as (λ t. list_any (λ y. eq y k) (keys_at postings ps) ≡ t → Contains (keys_at postings ps ++ keys_at postings own) k) [
          | true ↦ λ is. Contains-append_left (keys_at postings ps) (keys_at postings own) k (there-from_found eq exact (keys_at postings ps) k is)
          | false ↦ λ is. Contains-append_right (keys_at postings ps) (keys_at postings own) k
              ((placed.keys.members k).1 (has, λ had. absent-from_missed eq laws (keys_at postings ps) k is ((base.keys.members k).1 had)))
        ] refl,
      );
      once = AllPairs-append (λ j k. j ≢ k) (keys_at postings ps) (keys_at postings own) base.keys.once placed.keys.once
          (λ x y cx cy same. ((placed.keys.members y).0 cy).1 (subst (has_key b.value) same ((base.keys.members x).0 cx)));
    });
  }

  placed-alone : (value : R) (own : List ℕ) → IsPlaced (OwnKey has_key value None) postings own → IsPlaced (has_key value) postings own
  placed-alone value own placed = record {
    rows = placed.rows;
    keys = record {
      members = λ k. (λ c. ((placed.keys.members k).0 c).0, λ has. (placed.keys.members k).1 (has, tt));
      once = placed.keys.once;
    };
  }

  -- an opened value with all places of its keys
  pub placed-whole : (blocks : List (Option (Entry R ℕ))) (value : R) (base : Option (Base R)) (own : List ℕ) → IsPlaced (OwnKey has_key value base) postings own
      → IfSome base (λ b. (k : K) → has_key b.value k → has_key value k) → ((b : Base R) → base ≡ Some b → IsPlaced (has_key b.value) postings (places_at blocks b.number))
      → IsPlaced (has_key value) postings (base_places blocks base ++ own)
  placed-whole blocks value None own placed keeps under = placed-alone value own placed
  placed-whole blocks value (Some b) own placed keeps under = placed-both value b (places_at blocks b.number) own (under b refl) placed keeps

  pub all-whole : {merge : R → R → R} (blocks : List (Option (Entry R ℕ))) (entries : List (Entry R ℕ)) → ArePlaced (HasOwn has_key) postings entries → ((e : Entry R ℕ) → Contains entries e → IsOnBase has_key merge e.value e.base)
      → ((e : Entry R ℕ) (b : Base R) → Contains entries e → e.base ≡ Some b → IsPlaced (has_key b.value) postings (places_at blocks b.number))
      → ArePlaced (Has has_key) postings (map (whole_at blocks) entries)
  all-whole blocks [] placed based under e (i, il, is) = absurd (omega arith)
  all-whole blocks (x ∷ xs) placed based under e (zero, il, is) =
      subst (λ (f : Entry R ℕ). IsPlaced (has_key f.value) postings f.keys) is
      (placed-whole blocks x.value x.base x.keys (placed x (Contains-head x xs)) (based x (Contains-head x xs)).keeps (λ b is'. under x b (Contains-head x xs) is'))
  all-whole {merge} blocks (x ∷ xs) placed based under e (suc i, il, is) =
      all-whole {merge = merge} blocks xs (λ f c. placed f (Contains-tail x xs f c)) (λ f c. based f (Contains-tail x xs f c)) (λ f b c is'. under f b (Contains-tail x xs f c) is') e (i, omega arith, is)
