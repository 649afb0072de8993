-- Which kinds boxes have.
use Rattle.std.proofs.Common.{◌≡◌, suc, true, List, [], ◌∷◌, refl, ◌∙◌, ap, subst, arith}
use Rattle.std.specs.Prelude.{◌||◌}
use Rattle.std.specs.List.{filter, list_any}
use Rattle.iasl_backends.specs.Asked.{is_asked, same_kind, has_kind, IsOneOfEach}
use Rattle.iasl_backends.specs.Each.{Each}
use Rattle.iasl_backends.specs.declared.asked.Asked.{Asked}
use Rattle.iasl_backends.specs.declared.backend.Kind.{Kind}
use Rattle.iasl_backends.proofs.KindLaws.{kept_kind}
use Rattle.iasl_backends.proofs.EachLaws.{each_same}

module _ {X : Type 0} (kind_of : X → Kind) where
  -- boxes that keep their kinds have the same kinds
  kinds_same : (kind : Kind) (old now : List X) → Each (λ b c. kind_of c ≡ kind_of b) old now → has_kind kind_of kind now ≡ has_kind kind_of kind old
  kinds_same kind [] [] p = refl
  kinds_same kind [] (y ∷ ys) p = absurd (omega (arith, p.same_len))
  kinds_same kind (x ∷ xs) [] p = absurd (omega (arith, p.same_len))
  kinds_same kind (x ∷ xs) (y ∷ ys) p =
      let head : kind_of y ≡ kind_of x = p.at 0 x (omega arith) in
      let more = kinds_same kind xs ys (record { same_len = omega (arith, p.same_len); at = λ k d h. p.at (suc k) d (omega (arith, h)) }) in
      ap (λ k. same_kind kind k || list_any (λ x. same_kind kind (kind_of x)) ys) head ∙ ap (λ b. same_kind kind (kind_of x) || b) more

  -- those that are asked for are still there
  pub still_there : (asked same : Asked) (old now : List X) → same ≡ asked → Each (λ b c. kind_of c ≡ kind_of b) old now
      → ((kind : Kind) → is_asked asked kind ≡ true → has_kind kind_of kind old ≡ true) → (kind : Kind) → is_asked same kind ≡ true → has_kind kind_of kind now ≡ true
  still_there asked same old now e each there kind is = kinds_same kind old now each ∙ there kind (subst (λ a. is_asked a kind ≡ true) e is)

  -- and they are there once the others are gone
  pub kept_there : (asked : Asked) (old now : List X) → now ≡ filter (λ b. is_asked asked (kind_of b)) old → IsOneOfEach kind_of old → (kind : Kind) → is_asked asked kind ≡ true → has_kind kind_of kind now ≡ true
  kept_there asked old now e one kind is = kept_kind kind_of asked old now (subst (λ xs. Each (λ b c. kind_of c ≡ kind_of b) xs now) e (each_same now (λ b. refl))) one kind is
