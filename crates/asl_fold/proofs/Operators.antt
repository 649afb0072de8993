-- What the integer operators do with constants.
use Rattle.std.proofs.Common.{◌≡◌, ℕ, zero, suc, ◌%◌, Bool, true, false, List, [], ◌∷◌, refl, ap, ◌∙◌, arith}
use Rattle.std.specs.Prelude.{nat_eq, nat_lt, Result, Ok}
use Rattle.std.proofs.lemmas.Bool.Decides.{nat_tests}
use Rattle.acpi_values.specs.declared.width.Width.{Width}
use Rattle.acpi_values.specs.declared.fault.Fault.{Fault}
use Rattle.acpi_values.specs.declared.operator.IntOp.{IntOp}
use Rattle.acpi_values.specs.declared.operator.Plain.{Plain}
use Rattle.acpi_values.specs.Integers.{applied, truth}
use Rattle.acpi_values.specs.Operators.{Valued, row_of}
use Rattle.acpi_values.specs.Values as V
use Rattle.acpi_values.specs.Values.{Value, Data}
use Rattle.acpi_state.specs.Objects.{Names}
use Rattle.acpi_state.specs.State.{Store}
use Rattle.acpi_state.specs.Outcomes.{Gives, Steps}
use Rattle.acpi_state.specs.Actions.{give, computed, and_then}
use Rattle.acpi_state.specs.Acts.{OfValue, act_of, last_of}
use Rattle.asl_tree.specs.Constants.{is_unary}

abbrev pub number : ℕ → Value
number n = Data (V.Integer n)

-- the results of an operator with so many targets: with two, a remainder is the first
abbrev pub results : ℕ → ℕ → ℕ → List Value
results (suc (suc zero)) r n = number r ∷ number n ∷ []
results many r n = number n ∷ []

pub last_result : (many r n : ℕ) → last_of (results many r n) ≡ Gives (number n)
last_result zero r n = refl
last_result (suc zero) r n = refl
last_result (suc (suc zero)) r n = refl
last_result (suc (suc (suc many))) r n = refl

pub one_letter : (op : IntOp) → is_unary op ≡ true → (row_of (Plain.Number op)).operands ≡ Valued ∷ []
one_letter IntOp.Not e = refl
one_letter IntOp.FindSetLeftBit e = refl
one_letter IntOp.FindSetRightBit e = refl
one_letter IntOp.FromBcd e = refl
one_letter IntOp.ToBcd e = refl
one_letter IntOp.LNot e = refl
one_letter _ e = absurd cc

pub two_letters : (op : IntOp) → is_unary op ≡ false → (row_of (Plain.Number op)).operands ≡ Valued ∷ Valued ∷ []
two_letters IntOp.Not e = absurd cc
two_letters IntOp.FindSetLeftBit e = absurd cc
two_letters IntOp.FindSetRightBit e = absurd cc
two_letters IntOp.FromBcd e = absurd cc
two_letters IntOp.ToBcd e = absurd cc
two_letters IntOp.LNot e = absurd cc
two_letters _ e = refl

module _ (width : Width) (names : Names) (s : Store) where
  given : (r : Result ℕ Fault) (n : ℕ) → r ≡ Ok n → and_then (computed r) (λ n. give (number n ∷ [])) names s ≡ (Steps (number n ∷ []), s)
  given r n h = ap (λ r. and_then (computed r) (λ n. give (number n ∷ [])) names s) h

  less_acts : (a b : ℕ) → act_of (Plain.Number IntOp.LLess) width (OfValue (number a) ∷ OfValue (number b) ∷ []) names s ≡ (Steps (number (truth width (nat_lt a b)) ∷ []), s)
  less_acts a b = by_order (nat_lt a b) (nat_eq a b) refl refl
    where
      by_order : (c d : Bool) → nat_lt a b ≡ c → nat_eq a b ≡ d → act_of (Plain.Number IntOp.LLess) width (OfValue (number a) ∷ OfValue (number b) ∷ []) names s ≡ (Steps (number (truth width (nat_lt a b)) ∷ []), s)
      by_order true d e f = rw e refl
      by_order false true e f = rw e (rw f refl)
      by_order false false e f = rw e (rw f refl)

  equal_acts : (a b : ℕ) → act_of (Plain.Number IntOp.LEqual) width (OfValue (number a) ∷ OfValue (number b) ∷ []) names s ≡ (Steps (number (truth width (nat_eq a b)) ∷ []), s)
  equal_acts a b = by_order (nat_lt a b) (nat_eq a b) refl refl
    where
      by_order : (c d : Bool) → nat_lt a b ≡ c → nat_eq a b ≡ d → act_of (Plain.Number IntOp.LEqual) width (OfValue (number a) ∷ OfValue (number b) ∷ []) names s ≡ (Steps (number (truth width (nat_eq a b)) ∷ []), s)
      by_order true d e f = let g : nat_eq a b ≡ false = grind (arith, nat_tests, e) in rw e (rw g refl)
      by_order false true e f = rw e (rw f refl)
      by_order false false e f = rw e (rw f refl)

  greater_acts : (a b : ℕ) → act_of (Plain.Number IntOp.LGreater) width (OfValue (number a) ∷ OfValue (number b) ∷ []) names s ≡ (Steps (number (truth width (nat_lt b a)) ∷ []), s)
  greater_acts a b = by_order (nat_lt a b) (nat_eq a b) refl refl
    where
      by_order : (c d : Bool) → nat_lt a b ≡ c → nat_eq a b ≡ d → act_of (Plain.Number IntOp.LGreater) width (OfValue (number a) ∷ OfValue (number b) ∷ []) names s ≡ (Steps (number (truth width (nat_lt b a)) ∷ []), s)
      by_order true d e f = let g : nat_lt b a ≡ false = grind (arith, nat_tests, e) in rw e (rw g refl)
      by_order false true e f = let g : nat_lt b a ≡ false = grind (arith, nat_tests, e, f) in rw e (rw f (rw g refl))
      by_order false false e f = let g : nat_lt b a ≡ true = grind (arith, nat_tests, e, f) in rw e (rw f (rw g refl))

  pub acts_one : (op : IntOp) (a n : ℕ) → is_unary op ≡ true → applied op width a 0 ≡ Ok n
      → act_of (Plain.Number op) width (OfValue (number a) ∷ []) names s ≡ (Steps (results (row_of (Plain.Number op)).targets 0 n), s)
  acts_one IntOp.Not a n e h = given (applied IntOp.Not width a 0) n h
  acts_one IntOp.FindSetLeftBit a n e h = given (applied IntOp.FindSetLeftBit width a 0) n h
  acts_one IntOp.FindSetRightBit a n e h = given (applied IntOp.FindSetRightBit width a 0) n h
  acts_one IntOp.FromBcd a n e h = given (applied IntOp.FromBcd width a 0) n h
  acts_one IntOp.ToBcd a n e h = given (applied IntOp.ToBcd width a 0) n h
  acts_one IntOp.LNot a n e h = given (applied IntOp.LNot width a 0) n h
  acts_one _ a n e h = absurd cc

  pub acts_two : (op : IntOp) (a b n : ℕ) → is_unary op ≡ false → applied op width a b ≡ Ok n
      → act_of (Plain.Number op) width (OfValue (number a) ∷ OfValue (number b) ∷ []) names s ≡ (Steps (results (row_of (Plain.Number op)).targets (a % b) n), s)
  acts_two IntOp.Not a b n e h = absurd cc
  acts_two IntOp.FindSetLeftBit a b n e h = absurd cc
  acts_two IntOp.FindSetRightBit a b n e h = absurd cc
  acts_two IntOp.FromBcd a b n e h = absurd cc
  acts_two IntOp.ToBcd a b n e h = absurd cc
  acts_two IntOp.LNot a b n e h = absurd cc
  acts_two IntOp.Divide a b n e h = ap (λ r. and_then (computed r) (λ q. give (number (a % b) ∷ number q ∷ [])) names s) h
  acts_two IntOp.LEqual a b n e h = equal_acts a b ∙ given (applied IntOp.LEqual width a b) n h
  acts_two IntOp.LGreater a b n e h = greater_acts a b ∙ given (applied IntOp.LGreater width a b) n h
  acts_two IntOp.LLess a b n e h = less_acts a b ∙ given (applied IntOp.LLess width a b) n h
  acts_two IntOp.Add a b n e h = given (applied IntOp.Add width a b) n h
  acts_two IntOp.Subtract a b n e h = given (applied IntOp.Subtract width a b) n h
  acts_two IntOp.Multiply a b n e h = given (applied IntOp.Multiply width a b) n h
  acts_two IntOp.ShiftLeft a b n e h = given (applied IntOp.ShiftLeft width a b) n h
  acts_two IntOp.ShiftRight a b n e h = given (applied IntOp.ShiftRight width a b) n h
  acts_two IntOp.And a b n e h = given (applied IntOp.And width a b) n h
  acts_two IntOp.Nand a b n e h = given (applied IntOp.Nand width a b) n h
  acts_two IntOp.Or a b n e h = given (applied IntOp.Or width a b) n h
  acts_two IntOp.Nor a b n e h = given (applied IntOp.Nor width a b) n h
  acts_two IntOp.Xor a b n e h = given (applied IntOp.Xor width a b) n h
  acts_two IntOp.Mod a b n e h = given (applied IntOp.Mod width a b) n h
  acts_two IntOp.LAnd a b n e h = given (applied IntOp.LAnd width a b) n h
  acts_two IntOp.LOr a b n e h = given (applied IntOp.LOr width a b) n h
  acts_two IntOp.LNotEqual a b n e h = given (applied IntOp.LNotEqual width a b) n h
  acts_two IntOp.LLessEqual a b n e h = given (applied IntOp.LLessEqual width a b) n h
  acts_two IntOp.LGreaterEqual a b n e h = given (applied IntOp.LGreaterEqual width a b) n h
