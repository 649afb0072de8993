-- One word spoils words, and it is the one that is told.
use Rattle.std.proofs.Common.{◌≡◌, ℕ, ◌+◌, ◌<◌, ◌≤◌, Bool, true, false, List, ◌++◌, length, take, drop, Result, Ok, Err, refl, sym, ap, ◌∙◌, subst, append_assoc, arith}
use Rattle.std.specs.Prelude.{nat_lt}
use Rattle.std.proofs.lemmas.List.{take_all, take-take, take-append-drop}
use Rattle.iasl_options.specs.declared.request.Options.{Options}
use Rattle.iasl_options.specs.declared.request.WordsStop.{WordsStop}
use Rattle.iasl_options.specs.Asking.{Asked, asked_by}
use Rattle.iasl_options.specs.Shown.{Answers}
use Rattle.iasl_options.specs.CommandLine.{IsCommandLine, HasHope, IsHopeless, IsOffending, hopeless, ended}
use Rattle.iasl_options.proofs.CommandLines.{line_from}
use Rattle.iasl_options.proofs.Offending.{offending, answer_good, answer_every, answer_bad}
use Rattle.iasl_options.proofs.Utf8.{answer_texts}

-- there is hope before the word that spoils words
module _ {R : Type 0} (IsLine : List (List ℕ) → R → Type 0) where
  hope_before : (words : List (List ℕ)) (number : ℕ) → IsOffending IsLine words number → HasHope IsLine (take number words) × (number ≤ length words)
  hope_before words number (hopeless below hope none) = (hope, omega arith)
  hope_before words number (ended is hope none) = (subst (HasHope IsLine) (sym (take_all number words (omega arith))) hope, omega arith)

  hopeless_more : (words : List (List ℕ)) (m n : ℕ) → m ≤ n → IsHopeless IsLine (take m words) → HasHope IsLine (take n words) → ⊥
  hopeless_more words m n le none hope =
      let front : take m (take n words) ≡ take m words = take-take m n words le in
      let parts : take n words ≡ take m words ++ drop m (take n words) = sym (take-append-drop m (take n words)) ∙ ap (λ xs. xs ++ drop m (take n words)) front in
      let whole : take n words ++ hope.0 ≡ take m words ++ (drop m (take n words) ++ hope.0) = ap (λ xs. xs ++ hope.0) parts ∙ append_assoc (take m words) (drop m (take n words)) hope.0 in
      none (drop m (take n words) ++ hope.0) hope.1 (subst (λ all. IsLine all hope.1) whole hope.2)

  -- and none behind it
  none_behind : (words : List (List ℕ)) (number other : ℕ) → IsOffending IsLine words number → number < other → other ≤ length words → HasHope IsLine (take other words) → ⊥
  none_behind words number other (hopeless below hope none) lt le more = hopeless_more words (number + 1) other (omega arith) none more
  none_behind words number other (ended is hope none) lt le more = omega arith

  pub one_offending : (words : List (List ℕ)) (number other : ℕ) → IsOffending IsLine words number → IsOffending IsLine words other → number ≡ other
  one_offending words number other h k = by_tests (nat_lt number other) refl (nat_lt other number) refl
    where
      by_tests : (b : Bool) → nat_lt number other ≡ b → (c : Bool) → nat_lt other number ≡ c → number ≡ other
      by_tests true e c f =
          let hope = hope_before words other k in
          let lt : number < other = grind (arith, e) in
          absurd (none_behind words number other h lt hope.1 hope.0)
      by_tests false e true f =
          let hope = hope_before words number h in
          let lt : other < number = grind (arith, f) in
          absurd (none_behind words other number k lt hope.1 hope.0)
      by_tests false e false f = grind (arith, e, f)

  pub no_line : (words : List (List ℕ)) (number : ℕ) → IsOffending IsLine words number → (asked : R) → IsLine words asked → ⊥
  no_line words number (hopeless below hope none) asked line = none (drop (number + 1) words) asked (subst (λ all. IsLine all asked) (sym (take-append-drop (number + 1) words)) line)
  no_line words number (ended is hope none) asked line = none asked line

told : (words : List (List ℕ)) (number : ℕ) → IsOffending IsCommandLine words number → asked_by words ≡ Err number
told words number h = by_result (asked_by words) refl
  where
    by_result : (r : Result Asked ℕ) → asked_by words ≡ r → r ≡ Err number
    by_result (Ok asked) e = absurd (no_line IsCommandLine words number h asked (line_from words asked e))
    by_result (Err other) e = ap Err (one_offending IsCommandLine words other number (offending words other e) h)

pub answer_told : (words : List (List ℕ)) (answer : Result Options WordsStop) → Answers answer (asked_by words) → (word : ℕ) → IsOffending IsCommandLine words word → Answers answer (Err word)
answer_told words answer h word spoils = subst (Answers answer) (told words word spoils) h

pub ruleset answer_rules = (answer_texts, answer_good, answer_every, answer_bad, answer_told)
