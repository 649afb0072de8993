-- What is told of too many copies.
use Rattle.std.proofs.Common.{◌≡◌, ℕ, ◌+◌, ◌<◌, ◌≤◌, Bool, true, false, List, [], ◌∷◌, refl, sym, ap, ◌∙◌, arith}
use Rattle.std.specs.Prelude.{nat_lt, if◌then◌else◌}
use Rattle.std.proofs.lemmas.Bool.Decides.{nat_tests}
use Rattle.iasl_messages.specs.declared.place.Place.{Place}
use Rattle.iasl_messages.specs.declared.message.Message.{Message}
use Rattle.copy_checks.specs.Copies.{many_copies, copies_told}

below : (n limit : ℕ) → n < limit → nat_lt n limit ≡ true
below n limit lt = grind (arith, nat_tests)

not_below : (n limit : ℕ) → (n < limit → ⊥) → nat_lt n limit ≡ false
not_below n limit h = grind (arith, nat_tests)

abbrev told_by : Place → Bool → List Message
told_by place c = if c then [] else many_copies place ∷ []

-- nothing is told where both have numbers, and 6062 where they have not
pub none_told : (place : Place) (program core : ℕ) → program + core < 4294967296 → [] ≡ copies_told place program core
none_told place program core lt = sym (ap (told_by place) (below (program + core) 4294967296 lt))

pub one_told : (place : Place) (program core : ℕ) → (program + core < 4294967296 → ⊥) → many_copies place ∷ [] ≡ copies_told place program core
one_told place program core h = sym (ap (told_by place) (not_below (program + core) 4294967296 h))

-- where nothing is told, both have numbers
by_test : (place : Place) (program core : ℕ) (c : Bool) → nat_lt (program + core) 4294967296 ≡ c → told_by place c ≡ [] → program + core < 4294967296
by_test place program core true e h = grind (arith, nat_tests)
by_test place program core false e h = absurd cc

pub have_numbers : (place : Place) (program core : ℕ) → copies_told place program core ≡ [] → program + core < 4294967296
have_numbers place program core h = by_test place program core (nat_lt (program + core) 4294967296) refl h

-- what is told of some nodes is told of more
pub told_of_more : (place : Place) (program core more : ℕ) → core ≤ more → (copies_told place program core ≡ [] → ⊥) → copies_told place program core ≡ copies_told place program more
told_of_more place program core more le some = by (nat_lt (program + core) 4294967296) refl
  where
    by : (c : Bool) → nat_lt (program + core) 4294967296 ≡ c → copies_told place program core ≡ copies_told place program more
    by true is = absurd (some (ap (told_by place) is))
    by false is =
        let over : program + more < 4294967296 → ⊥ = λ lt. let never : ⊥ = grind (arith, nat_tests) in never in
        ap (told_by place) is ∙ one_told place program more over
