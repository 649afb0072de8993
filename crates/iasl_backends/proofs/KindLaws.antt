-- Which kinds a list has.
use Rattle.std.proofs.Common.{◌≡◌, ℕ, suc, Bool, true, false, List, [], ◌∷◌, length, cond, refl, sym, ◌∙◌, ap, arith}
use Rattle.std.specs.Prelude.{◌||◌, get_or}
use Rattle.std.specs.List.{filter, list_any, All}
use Rattle.std.proofs.lemmas.List.Folds.{list_any_none}
use Rattle.std.proofs.lemmas.List.Elements.{All-weaker}
use Rattle.std.proofs.lemmas.Map.Views.{any-filter_same}
use Rattle.iasl_backends.specs.Asked.{is_asked, same_kind, has_kind, IsOneOfEach}
use Rattle.iasl_backends.specs.Each.{Each}
use Rattle.iasl_backends.specs.declared.asked.Asked.{Asked}
use Rattle.iasl_backends.specs.declared.backend.Kind.{Kind}
use Rattle.iasl_backends.specs.declared.backend.Kind.TheVariants.{RawAml, CHex, Listing, Template}

-- some member passes a test that one member passes
one_passes : {X : Type 0} (p : X → Bool) (xs : List X) → length (filter p xs) ≡ 1 → list_any p xs ≡ true
one_passes p [] h = absurd (omega (arith, h))
one_passes p (x ∷ xs) h = by (p x) h (one_passes p xs)
  where
    by : (b : Bool) → length (cond b (x ∷ filter p xs) (filter p xs)) ≡ 1 → (length (filter p xs) ≡ 1 → list_any p xs ≡ true) → (b || list_any p xs) ≡ true
    by true k go = refl
    by false k go = go k

-- lists with the same kinds in their places have the same kinds
module _ {X : Type 0} (kind_of : X → Kind) (kind : Kind) where
  kinds_stay : (old now : List X) → Each (λ b b2. kind_of b2 ≡ kind_of b) old now → has_kind kind_of kind now ≡ has_kind kind_of kind old
  kinds_stay [] [] p = refl
  kinds_stay [] (y ∷ ys) p = absurd (omega (arith, p.same_len))
  kinds_stay (x ∷ xs) [] p = absurd (omega (arith, p.same_len))
  kinds_stay (x ∷ xs) (y ∷ ys) p =
      let head : kind_of y ≡ kind_of x = p.at 0 x (omega arith) in
      let more = kinds_stay xs ys (record { same_len = omega (arith, p.same_len); at = λ k d h. p.at (suc k) d (omega (arith, h)) }) in
      ap (λ k. same_kind kind k || list_any (λ x. same_kind kind (kind_of x)) ys) head ∙ ap (λ b. same_kind kind (kind_of x) || b) more

is_the : (kind other : Kind) (asked : Asked) → same_kind kind other ≡ true → is_asked asked other ≡ is_asked asked kind
is_the RawAml RawAml asked e = refl
is_the CHex CHex asked e = refl
is_the Listing Listing asked e = refl
is_the Template Template asked e = refl
is_the RawAml CHex asked e = absurd cc
is_the RawAml Listing asked e = absurd cc
is_the RawAml Template asked e = absurd cc
is_the CHex RawAml asked e = absurd cc
is_the CHex Listing asked e = absurd cc
is_the CHex Template asked e = absurd cc
is_the Listing RawAml asked e = absurd cc
is_the Listing CHex asked e = absurd cc
is_the Listing Template asked e = absurd cc
is_the Template RawAml asked e = absurd cc
is_the Template CHex asked e = absurd cc
is_the Template Listing asked e = absurd cc

-- a kind that is asked for is still there once the others are gone
pub kept_kind : {X : Type 0} (kind_of : X → Kind) (asked : Asked) (old now : List X) → Each (λ b b2. kind_of b2 ≡ kind_of b) (filter (λ b. is_asked asked (kind_of b)) old) now
    → IsOneOfEach kind_of old → (kind : Kind) → is_asked asked kind ≡ true → has_kind kind_of kind now ≡ true
kept_kind kind_of asked old now each one kind is =
    kinds_stay kind_of kind (filter (λ b. is_asked asked (kind_of b)) old) now each
    ∙ any-filter_same (λ b. same_kind kind (kind_of b)) (λ b. is_asked asked (kind_of b)) true (λ b e. is_the kind (kind_of b) asked e ∙ is) old
    ∙ one_passes (λ b. same_kind kind (kind_of b)) old (one kind)

differs : (kind other : Kind) → (other ≡ kind → ⊥) → same_kind kind other ≡ false
differs RawAml RawAml h = absurd (h refl)
differs CHex CHex h = absurd (h refl)
differs Listing Listing h = absurd (h refl)
differs Template Template h = absurd (h refl)
differs RawAml CHex h = refl
differs RawAml Listing h = refl
differs RawAml Template h = refl
differs CHex RawAml h = refl
differs CHex Listing h = refl
differs CHex Template h = refl
differs Listing RawAml h = refl
differs Listing CHex h = refl
differs Listing Template h = refl
differs Template RawAml h = refl
differs Template CHex h = refl
differs Template Listing h = refl

-- a kind of which there is a member is not missing
pub not_missing : {X : Type 0} (kind_of : X → Kind) (kind : Kind) (xs : List X) → All (λ b. kind_of b ≡ kind → ⊥) xs → has_kind kind_of kind xs ≡ true → ⊥
not_missing kind_of kind xs none some =
    let no : has_kind kind_of kind xs ≡ false = list_any_none (λ b. same_kind kind (kind_of b)) xs (All-weaker (λ b. kind_of b ≡ kind → ⊥) (λ b. same_kind kind (kind_of b) ≡ false) (λ b h. differs kind (kind_of b) h) xs none) in
    absurd cc

-- how many pass a test, one member apart
more : Bool → ℕ → ℕ
more b n = cond b (suc n) n

counted : {X : Type 0} (p : X → Bool) (x : X) (xs : List X) → length (filter p (x ∷ xs)) ≡ more (p x) (length (filter p xs))
unfolding more
counted p x xs = by (p x)
  where
    by : (b : Bool) → length (cond b (x ∷ filter p xs) (filter p xs)) ≡ cond b (suc (length (filter p xs))) (length (filter p xs))
    by true = refl
    by false = refl

count : (kind : Kind) → more (same_kind kind RawAml) (more (same_kind kind CHex) (more (same_kind kind Listing) (more (same_kind kind Template) 0))) ≡ 1
unfolding more
count RawAml = refl
count CHex = refl
count Listing = refl
count Template = refl

-- these four are one of each kind
pub four : {X : Type 0} (kind_of : X → Kind) (a b c d : X) → kind_of a ≡ RawAml → kind_of b ≡ CHex → kind_of c ≡ Listing → kind_of d ≡ Template → IsOneOfEach kind_of (a ∷ b ∷ c ∷ d ∷ [])
four {X = X} kind_of a b c d ea eb ec ed kind =
    let p : X → Bool = λ x. same_kind kind (kind_of x) in
    counted p a (b ∷ c ∷ d ∷ []) ∙ ap (more (p a)) (counted p b (c ∷ d ∷ []) ∙ ap (more (p b)) (counted p c (d ∷ []) ∙ ap (more (p c)) (counted p d [])))
    ∙ ap (λ (k : Kind). more (same_kind kind k) (more (p b) (more (p c) (more (p d) 0)))) ea
    ∙ ap (λ (k : Kind). more (same_kind kind RawAml) (more (same_kind kind k) (more (p c) (more (p d) 0)))) eb
    ∙ ap (λ (k : Kind). more (same_kind kind RawAml) (more (same_kind kind CHex) (more (same_kind kind k) (more (p d) 0)))) ec
    ∙ ap (λ (k : Kind). more (same_kind kind RawAml) (more (same_kind kind CHex) (more (same_kind kind Listing) (more (same_kind kind k) 0)))) ed
    ∙ count kind
