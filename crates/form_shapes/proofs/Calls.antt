-- Where each call has as many arguments as what it calls takes, the first call of a path says what any other says.
use Rattle.std.proofs.Common.{◌≡◌, ℕ, Bool, true, false, List, [], ◌∷◌, ◌++◌, Option, Some, None, refl, sym, ap, ◌∙◌, subst, arith}
use Rattle.std.proofs.lemmas.Bool.Decides.{nat_tests}
use Rattle.std.specs.Prelude.{if◌then◌else◌, ◌&&◌, ◌||◌, not, nat_eq}
use Rattle.acpi_values.specs.Paths.{AbsolutePath, is_same_path}
use Rattle.acpi_state.specs.Objects.{Object, lookup, operand_count, is_method}
use Rattle.acpi_state.specs.Outcomes.{choose}
use Rattle.acpi_state.proofs.Lookups.{is_same_path-true}
use Rattle.asl_tree.specs.Names.{denoted}
use Rattle.asl_meaning.specs.Declarations.{Declarations, is_named, called}
use Rattle.acpi_names.specs.Errors.{NameError, WrongCount, unless, Whole, final, takes, name_end}
use Rattle.acpi_names.specs.Mentions.{Mention, Used', Sought, Called, Declares, Outside, Opens, after, calls_in, mention_types, all_types}
use Rattle.form_shapes.proofs.Asked.{AreAsked}
use Rattle.form_shapes.proofs.Light.{Telling, told}

left_none : {A : Type 0} (xs ys : List A) → xs ++ ys ≡ [] → xs ≡ []
left_none [] ys e = refl
left_none (x ∷ xs) ys e = absurd cc

right_none : {A : Type 0} (xs ys : List A) → xs ++ ys ≡ [] → ys ≡ []
right_none [] ys e = e
right_none (x ∷ xs) ys e = absurd cc

met : (c : Bool) (e : NameError) → unless c e ≡ [] → c ≡ true
met true e h = refl
met false e h = absurd cc

pub both_false : (a b : Bool) → a ≡ false → b ≡ false → (a || b) ≡ false
both_false false b e f = f
both_false true b e f = absurd cc

pub first_false : (a b : Bool) → (a || b) ≡ false → a ≡ false
first_false false b e = refl
first_false true b e = absurd cc

pub second_false : (a b : Bool) → (a || b) ≡ false → b ≡ false
second_false false b e = e
second_false true b e = absurd cc

not_false : (a : Bool) → not a ≡ false → a ≡ true
not_false true e = refl
not_false false e = absurd cc

second_true : (a b : Bool) → (a && b) ≡ true → b ≡ true
second_true true b e = e
second_true false b e = absurd cc

module _ (whole : Whole) where
  -- whether a call has other arguments than what it calls takes
  abbrev misfit : Mention → Bool
  misfit (Called asked at name n scope) = choose (denoted (is_named whole.all) name scope) false (λ path. not (takes n (final whole.known path)))
  misfit m = false

  abbrev pub misfits : Telling
  misfits = record { of = λ m d. misfit m; steady = λ m h c d. refl }

  -- whether a path is called
  abbrev calls_path : AbsolutePath → Mention → Bool
  calls_path path (Called asked at name n scope) = choose (denoted (is_named whole.all) name scope) false (λ other. is_same_path other path)
  calls_path path m = false

  abbrev pub calling : AbsolutePath → Telling
  calling path = record { of = λ m d. calls_path path m; steady = λ m h c d. refl }

  -- how many arguments what a path leads to takes
  abbrev count_of : Option (AbsolutePath × Object) → Option ℕ
  count_of None = None
  count_of (Some found) = Some (operand_count found.1)

  fits_count : (n : ℕ) (o : Option (AbsolutePath × Object)) → takes n o ≡ true → count_of o ≡ Some n
  fits_count n None e = absurd cc
  fits_count n (Some found) e = let same : operand_count found.1 ≡ n = grind (arith, nat_tests, second_true (is_method found.1) (nat_eq (operand_count found.1) n) e) in ap Some same

  -- ---- no call is a misfit where nothing is wrong with the counts

  call_fits : (o : Option AbsolutePath) (n : ℕ) → takes n (choose o None (final whole.known)) ≡ true → choose o false (λ path. not (takes n (final whole.known path))) ≡ false
  call_fits None n e = refl
  call_fits (Some path) n e = ap not e

  pub none_misfits : (ms : List Mention) (d : Declarations) → AreAsked ms → all_types whole ms ≡ [] → told misfits ms d ≡ false
  none_misfits [] d h e = refl
  none_misfits (Called true at name n scope ∷ ms) d h e =
      let mine = mention_types whole (Called true at name n scope) in
      both_false (misfit (Called true at name n scope)) (told misfits ms d) (call_fits (denoted (is_named whole.all) name scope) n (met (takes n (name_end whole name scope)) (WrongCount at name) (left_none mine (all_types whole ms) e)))
      (none_misfits ms d h.1 (right_none mine (all_types whole ms) e))
  none_misfits (Called false at name n scope ∷ ms) d h e = absurd h.0
  none_misfits (Used' asked at name scope ∷ ms) d h e = none_misfits ms d h.1 (right_none (mention_types whole (Used' asked at name scope)) (all_types whole ms) e)
  none_misfits (Sought at name scope ∷ ms) d h e = none_misfits ms d h.1 e
  none_misfits (Declares at name as' scope ∷ ms) d h e = none_misfits ms (after (Declares at name as' scope) d) h.1 e
  none_misfits (Outside here at name type scope ∷ ms) d h e = none_misfits ms (after (Outside here at name type scope) d) h.1 e
  none_misfits (Opens here at name scope inner ∷ ms) d h e = none_misfits ms d h.1 e

  -- ---- so the first call of a path has as many arguments as what it leads to takes

  abbrev looked : List Mention → AbsolutePath → Option ℕ
  looked ms path = lookup (called (calls_in (is_named whole.all) ms)) path

  abbrev counted : Bool → AbsolutePath → Option ℕ
  counted c path = if c then count_of (final whole.known path) else None

  call_counts : (o : Option AbsolutePath) (n : ℕ) (path : AbsolutePath) (rest : List (Option AbsolutePath × ℕ)) (more : Bool) → choose o false (λ p. not (takes n (final whole.known p))) ≡ false → lookup (called rest) path ≡ counted more path
      → lookup (called ((o, n) ∷ rest)) path ≡ counted (choose o false (λ p. is_same_path p path) || more) path
  call_counts None n path rest more e h = h
  call_counts (Some p) n path rest more e h = by (is_same_path p path) refl
    where
      by : (c : Bool) → is_same_path p path ≡ c → (if c then Some n else lookup (called rest) path) ≡ counted (c || more) path
      by true s = sym (fits_count n (final whole.known path) (subst (λ q. takes n (final whole.known q) ≡ true) (is_same_path-true p path s) (not_false (takes n (final whole.known p)) e)))
      by false s = h

  first_counts : (path : AbsolutePath) (ms : List Mention) (d : Declarations) → told misfits ms d ≡ false → looked ms path ≡ counted (told (calling path) ms d) path
  first_counts path [] d e = refl
  first_counts path (Called asked at name n scope ∷ ms) d e =
      let o = denoted (is_named whole.all) name scope in
      call_counts o n path (calls_in (is_named whole.all) ms) (told (calling path) ms d) (first_false (misfit (Called asked at name n scope)) (told misfits ms d) e) (first_counts path ms d (second_false (misfit (Called asked at name n scope)) (told misfits ms d) e))
  first_counts path (Used' asked at name scope ∷ ms) d e = first_counts path ms d e
  first_counts path (Sought at name scope ∷ ms) d e = first_counts path ms d e
  first_counts path (Declares at name as' scope ∷ ms) d e = first_counts path ms (after (Declares at name as' scope) d) e
  first_counts path (Outside here at name type scope ∷ ms) d e = first_counts path ms (after (Outside here at name type scope) d) e
  first_counts path (Opens here at name scope inner ∷ ms) d e = first_counts path ms d e

  -- other mentions, in which the same paths are called
  pub same_looked : (path : AbsolutePath) (ms ms' : List Mention) (d : Declarations) → told misfits ms d ≡ false → told misfits ms' d ≡ false → told (calling path) ms' d ≡ told (calling path) ms d
      → lookup (called (calls_in (is_named whole.all) ms')) path ≡ lookup (called (calls_in (is_named whole.all) ms)) path
  same_looked path ms ms' d e f h = first_counts path ms' d f ∙ ap (λ c. counted c path) h ∙ sym (first_counts path ms d e)
