-- What mentions come to, one after another.
use Rattle.std.proofs.Common.{◌≡◌, ℕ, ◌+◌, ◌<◌, ◌≤◌, length, get_or, take, List, [], ◌∷◌, ◌++◌, append-nil, append_assoc, refl, sym, ap, ◌∙◌, arith}
use Rattle.std.proofs.lemmas.List.{take_all, length-map}
use Rattle.acpi_values.specs.Paths.{AbsolutePath}
use Rattle.acpi_names.specs.Mentions as M
use Rattle.acpi_names.specs.Shown.{shown, all_shown}
use Rattle.acpi_names.specs.declared.mention.Mention.{Mention}
use Rattle.name_kinds.proofs.Places.{next_taken}

module _ {A B : Type 0} (all : List A → List B) (each : A → List B) (none : all [] ≡ []) (more : (x : A) (xs : List A) → all (x ∷ xs) ≡ each x ++ all xs) where
  pub one_more : (xs : List A) (x : A) → all (xs ++ x ∷ []) ≡ all xs ++ each x
  one_more [] x = more x [] ∙ ap (λ bs. each x ++ bs) none ∙ append-nil (each x) ∙ sym (ap (λ bs. bs ++ each x) none)
  one_more (y ∷ xs) x =
      more y (xs ++ x ∷ []) ∙ ap (λ bs. each y ++ bs) (one_more xs x) ∙ sym (append_assoc (each y) (all xs) (each x)) ∙ ap (λ bs. bs ++ each x) (sym (more y xs))

module _ {B : Type 0} (all : List M.Mention → List B) (each : M.Mention → List B) (none : all [] ≡ []) (more : (m : M.Mention) (ms : List M.Mention) → all (m ∷ ms) ≡ each m ++ all ms) where
  pub next_of : (paths : List AbsolutePath) (mentions : List Mention) (i : ℕ) (m : Mention) → i < length mentions → m ≡ get_or mentions i m → all (take (i + 1) (all_shown paths mentions)) ≡ all (take i (all_shown paths mentions)) ++ each (shown paths m)
  next_of paths mentions i m lt is = ap all (next_taken paths mentions i m lt is) ∙ one_more all each none more (take i (all_shown paths mentions)) (shown paths m)

pub taken_all : (paths : List AbsolutePath) (mentions : List Mention) (i : ℕ) → length mentions ≤ i → take i (all_shown paths mentions) ≡ all_shown paths mentions
taken_all paths mentions i le = take_all i (all_shown paths mentions) (omega (arith, le, length-map mentions (shown paths)))

pub none_taken : {A : Type 0} (xs : List A) → take 0 xs ≡ []
none_taken {A} [] = refl
none_taken {A} (x ∷ xs) = refl
