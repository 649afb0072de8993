-- The arguments of a form as they stand in the tree fit where those that are written fit.
use Rattle.std.proofs.Common.{◌≡◌, inl, inr, ℕ, zero, suc, ◌+◌, ◌*◌, ◌%◌, ◌<◌, ◌≤◌, Bool, true, false, List, [], ◌∷◌, ◌++◌, map, length, refl, sym, ◌∙◌, subst, arith, append-nil}
use Rattle.std.specs.Prelude.{nat_eq, nat_le, replicate, if◌then◌else◌, Some, None, Result, Ok, Err}
use Rattle.std.proofs.lemmas.Bool.{leb-true, eqb-true, false≢true}
use Rattle.acpi_state.specs.Outcomes.{choose}
use Rattle.acpi_values.specs.declared.operator.Plain.{Plain}
use Rattle.acpi_values.specs.declared.operator.DataOp.TheVariants as DataOp
use Rattle.acpi_values.specs.Operators.{Letter, Valued, Kept, Placed, Used, row_of as plain_row}
use Rattle.acpi_values.specs.Operators as L
use Rattle.asl_tree.specs.declared.constant.NoConstant.{NoConstant}
use Rattle.asl_tree.specs.declared.term.Symbolic.TheVariants as Symbolic
use Rattle.asl_tree.specs.Formats.{cut}
use Rattle.asl_tree.specs.declared.term.Special.TheVariants as Special
use Rattle.std.proofs.lemmas.Nat.{mod_below}
use Rattle.iasl_messages.specs.declared.place.Place.{Place}
use Rattle.asl_tree.specs.declared.term.Op.{Op}
use Rattle.asl_tree.specs.declared.term.Declaration.TheVariants as Declaration
use Rattle.asl_tree.specs.declared.term.Control.TheVariants as Control
use Rattle.asl_tree.specs.declared.term.Literal.TheVariants as Literal
use Rattle.asl_tree.specs.Tree.{At, Tree, Integer, String, Trees, no_trees, tree, count}
use Rattle.asl_tree.specs.View.{form}
use Rattle.named_sessions.specs.Shaped.{IsNumber}
use Rattle.asl_words.specs.declared.operator.Parameter.{Parameter}
use Rattle.asl_words.specs.declared.operator.Slot.{Slot}
use Rattle.asl_words.specs.declared.operator.Slot.TheVariants as slot
use Rattle.aml_sessions.specs.Ready.{IsText}
use Rattle.asl_prints.specs.Texts.{is_text}
use Rattle.asl_prints.proofs.TextForms.{no_text_form}
use Rattle.asl_words.specs.Operators.{asked, optional, further, expression, target, by_letter, parameters_as, declared, used, external, constant, parameters_of}
use Rattle.acpi_values.specs.declared.width.Width.{Width}
use Rattle.term_plans.specs.Plans.{Plan, an_integer, a_text, omitted, a_form, Plans, no_plans, plan, number_of, plan_at, how_many, constant_of}
use Rattle.term_plans.specs.Places.{nowhere}
use Rattle.asl_terms.specs.Terms.{one_word, or_one, holes_in, counted, format_faults, settled, method_flags, field_flags}
use Rattle.asl_terms.specs.Terms.{is_stated, zero_plan, stated_parameters, few_elements, package_settled}
use Rattle.term_plans.specs.Plans.{one_plan}
use Rattle.program_shapes.proofs.Fits.{Fits, TreesFit, IsThere, IsString, FormedValues, IsAtMost}
use Rattle.program_shapes.proofs.Forms.{PrintedFit, PrintedIntoFit, Two, two, two_of, Three, three, three_of}
use Rattle.program_shapes.proofs.Operators.{SettledFit, ExternalFit}
use Rattle.asl_numbers.specs.Numbers.{nodes, numbered, numbered_all}
use Rattle.program_shapes.proofs.Plans.{PlanAs, PlansAs, PlanTakes, PlansFit, ArgumentsFit, are_asked, is_ordered, asked_ordered, none_missing, integer_as, text_as, form_as, none_as, more_as, fits_as, count_as}

flags_fit : (a b c : ℕ) → a % 8 + 8 * (b % 2) + 16 * (c % 16) ≤ 255
flags_fit a b c =
    let x : a % 8 < 8 = mod_below a 8 (omega arith) in
    let y : b % 2 < 2 = mod_below b 2 (omega arith) in
    let z : c % 16 < 16 = mod_below c 16 (omega arith) in
    omega (arith, x, y, z)

field_flags_fit : (a b c : ℕ) → a % 16 + 16 * (b % 2) + 32 * (c % 4) ≤ 255
field_flags_fit a b c =
    let x : a % 16 < 16 = mod_below a 16 (omega arith) in
    let y : b % 2 < 2 = mod_below b 2 (omega arith) in
    let z : c % 4 < 4 = mod_below c 4 (omega arith) in
    omega (arith, x, y, z)

abbrev byte : Parameter
byte = asked (constant 0 255)

abbrev types : Parameter
types = asked (slot.Types 7)

external_two : (ts : Trees) → Two external types ts → ExternalFit ts
external_two _ (two t u h i) = (h, i)

external_three : (ts : Trees) → Three external types types ts → ExternalFit ts
external_three _ (three t u v h i j) = (h, i, j)

is_there : (p : Plan) → p ≡ omitted → is_stated p ≡ true → ⊥
is_there omitted e h = absurd cc
is_there _ e h = absurd cc

-- Zero
pub literal_as : (P : Tree → Type 0) (op : Op) → ((at : At) → P (form at op no_trees no_trees)) → PlanAs P (a_form op no_plans no_plans)
literal_as P op h = form_as P op no_plans no_plans (λ at m n. made at (numbered_all m no_plans) (numbered_all n no_plans) (none_as (λ ts. ts ≡ no_trees) refl m) (none_as (λ ts. ts ≡ no_trees) refl n))
  where
    made : (at : At) (ts bs : Trees) → ts ≡ no_trees → bs ≡ no_trees → P (form at op ts bs)
    made at ts bs e f = subst (λ ts. P (form at op ts bs)) (sym e) (subst (λ bs. P (form at op no_trees bs)) (sym f) (h at))

return_fit : (place at : Place) (p : Plan) → PlanTakes true slot.Expression p → PlansAs (TreesFit (expression ∷ [])) (if is_stated p then plan at p no_plans else one_plan place zero_plan)
return_fit place at p h = by (is_stated p) refl h
  where
    by : (b : Bool) → is_stated p ≡ b → PlanTakes true slot.Expression p → PlansAs (TreesFit (expression ∷ [])) (if b then plan at p no_plans else one_plan place zero_plan)
    by true e (inl f) = fits_as (expression ∷ []) (plan at p no_plans) (f, tt)
    by true e (inr o) = absurd (is_there p o e)
    by false e h = fits_as (expression ∷ []) (plan place zero_plan no_plans) (literal_as (Fits slot.Expression) (Op.Literal Literal.Zero) (λ at. (refl, tt)), tt)

external_fit : (place at : Place) (p q : Plan) (n m : ℕ) → PlanAs (Fits slot.External) p → PlansAs ExternalFit (plan at p (plan place (an_integer n) (stated_parameters place q)))
external_fit place at p q n m h = by (is_stated q)
  where
    by : (b : Bool) → PlansAs ExternalFit (plan at p (plan place (an_integer n) (if b then one_plan place (an_integer (number_of q)) else no_plans)))
    by true = λ m.
        external_three (numbered_all m (plan at p (plan place (an_integer n) (plan place (an_integer (number_of q)) no_plans)))) (three_of external types types (numbered_all m (plan at p (plan place (an_integer n) (plan place (an_integer (number_of q)) no_plans))))
        (fits_as (external ∷ types ∷ types ∷ []) (plan at p (plan place (an_integer n) (plan place (an_integer (number_of q)) no_plans))) (h, (integer_as IsNumber n tt, (integer_as IsNumber (number_of q) tt, tt))) m))
    by false = λ m.
        external_two (numbered_all m (plan at p (plan place (an_integer n) no_plans))) (two_of external types (numbered_all m (plan at p (plan place (an_integer n) no_plans)))
        (fits_as (external ∷ types ∷ []) (plan at p (plan place (an_integer n) no_plans)) (h, (integer_as IsNumber n tt, tt)) m))

-- the number of elements of a Package, where it is read so
pub package_fit : (s : Slot) → ((n : ℕ) → n ≤ 255 → Fits s (Integer n)) → (width : Width) (place : Place) (ps : Plans) → PlansFit (optional s ∷ []) ps → PlansAs (TreesFit (optional s ∷ [])) (package_settled width place ps)
package_fit s few width place ps h = by (constant_of width (plan_at ps 0))
  where
    alone : (n : ℕ) → n ≤ 255 → PlansAs (TreesFit (optional s ∷ [])) (one_plan place (an_integer n))
    alone n le = fits_as (optional s ∷ []) (one_plan place (an_integer n)) (inl (integer_as (Fits s) n (few n le)), tt)

    if_few : (n : ℕ) (b : Bool) → nat_le n 255 ≡ b → PlansAs (TreesFit (optional s ∷ [])) (choose (if b then Some n else None) ps (λ n. one_plan place (an_integer n)))
    if_few n true e = alone n (leb-true n 255 e)
    if_few n false e = fits_as (optional s ∷ []) ps h

    by : (r : Result ℕ NoConstant) → PlansAs (TreesFit (optional s ∷ [])) (choose (few_elements r) ps (λ n. one_plan place (an_integer n)))
    by (Ok n) = if_few n (nat_le n 255) refl
    by (Err e) = fits_as (optional s ∷ []) ps h

test_fit : (p : Plan) → PlanTakes true slot.Expression p → PlanAs (Fits slot.Expression) (or_one p)
test_fit p h = by (is_stated p) refl h
  where
    by : (b : Bool) → is_stated p ≡ b → PlanTakes true slot.Expression p → PlanAs (Fits slot.Expression) (if b then p else one_word)
    by true e (inl f) = f
    by true e (inr o) = absurd (is_there p o e)
    by false e h = literal_as (Fits slot.Expression) (Op.Literal Literal.One) (λ at. (refl, tt))

-- ---- formats and their arguments

abbrev prints : Op → Bool
prints (Op.Control Control.Printf) = true
prints (Op.Control Control.Fprintf) = true
prints _ = false

usual_fit : (width : Width) (op : Op) (place : Place) (ps : Plans) → prints op ≡ false → PlansFit (parameters_of op) ps → PlansAs (SettledFit op) (settled width op place ps)
unfolding parameters_of
usual_fit width (Op.Declaration Declaration.Method) place no_plans n h = absurd h
usual_fit width (Op.Declaration Declaration.Method) place (plan at p rest) n h =
    let flags : ℕ = method_flags (plan at p rest) in
    let few : flags ≤ 255 = flags_fit (number_of (plan_at (plan at p rest) 1)) (number_of (plan_at (plan at p rest) 2)) (number_of (plan_at (plan at p rest) 3)) in
    fits_as (declared ∷ byte ∷ []) (plan at p (plan place (an_integer flags) no_plans)) (h.0, (integer_as (IsAtMost 255) flags few, tt))
usual_fit width (Op.Declaration Declaration.Mutex) place no_plans n h = absurd h
usual_fit width (Op.Declaration Declaration.Mutex) place (plan at p rest) n h =
    let level : ℕ = number_of (plan_at (plan at p rest) 1) % 16 in
    let low : level < 16 = mod_below (number_of (plan_at (plan at p rest) 1)) 16 (omega arith) in
    fits_as (declared ∷ byte ∷ []) (plan at p (plan place (an_integer level) no_plans)) (h.0, (integer_as (IsAtMost 255) level (omega (arith, low)), tt))
usual_fit width (Op.Declaration Declaration.External) place no_plans n h = absurd h
usual_fit width (Op.Declaration Declaration.External) place (plan at p rest) n h = external_fit place at p (plan_at (plan at p rest) 3) (number_of (plan_at (plan at p rest) 1)) 0 h.0
usual_fit width (Op.Control Control.Return) place no_plans n h = absurd h
usual_fit width (Op.Control Control.Return) place (plan at p no_plans) n h = return_fit place at p h.0
usual_fit width (Op.Control Control.Return) place (plan at p (plan b q rest)) n h = absurd h.1
usual_fit width (Op.Declaration Declaration.Field) place no_plans n h = absurd h
usual_fit width (Op.Declaration Declaration.Field) place (plan at p rest) n h =
    let ps : Plans = plan at p rest in
    let flags : ℕ = field_flags 1 ps in
    let few : flags ≤ 255 = field_flags_fit (number_of (plan_at ps 1)) (number_of (plan_at ps 2)) (number_of (plan_at ps 3)) in
    fits_as (used ∷ byte ∷ []) (plan at p (plan place (an_integer flags) no_plans)) (h.0, (integer_as (IsAtMost 255) flags few, tt))
usual_fit width (Op.Declaration Declaration.IndexField) place no_plans n h = absurd h
usual_fit width (Op.Declaration Declaration.IndexField) place (plan at p no_plans) n h = absurd h.1
usual_fit width (Op.Declaration Declaration.IndexField) place (plan at p (plan b q rest)) n h =
    let ps : Plans = plan at p (plan b q rest) in
    let flags : ℕ = field_flags 2 ps in
    let few : flags ≤ 255 = field_flags_fit (number_of (plan_at ps 2)) (number_of (plan_at ps 3)) (number_of (plan_at ps 4)) in
    fits_as (used ∷ used ∷ byte ∷ []) (plan at p (plan b q (plan place (an_integer flags) no_plans))) (h.0, (h.1.0, (integer_as (IsAtMost 255) flags few, tt)))
usual_fit width (Op.Declaration Declaration.BankField) place no_plans n h = absurd h
usual_fit width (Op.Declaration Declaration.BankField) place (plan at p no_plans) n h = absurd h.1
usual_fit width (Op.Declaration Declaration.BankField) place (plan at p (plan b q no_plans)) n h = absurd h.1.1
usual_fit width (Op.Declaration Declaration.BankField) place (plan at p (plan b q (plan c r rest))) n h =
    let ps : Plans = plan at p (plan b q (plan c r rest)) in
    let flags : ℕ = field_flags 3 ps in
    let few : flags ≤ 255 = field_flags_fit (number_of (plan_at ps 3)) (number_of (plan_at ps 4)) (number_of (plan_at ps 5)) in
    fits_as (used ∷ used ∷ expression ∷ byte ∷ []) (plan at p (plan b q (plan c r (plan place (an_integer flags) no_plans)))) (h.0, (h.1.0, (h.1.1.0, (integer_as (IsAtMost 255) flags few, tt))))
usual_fit width (Op.Special Special.Package) place ps n h = package_fit slot.Expression (λ n le. (refl, tt)) width place ps h
usual_fit width (Op.Control Control.For) place no_plans n h = absurd h
usual_fit width (Op.Control Control.For) place (plan at p no_plans) n h = absurd h.1
usual_fit width (Op.Control Control.For) place (plan at p (plan b q no_plans)) n h = absurd h.1.1
usual_fit width (Op.Control Control.For) place (plan at p (plan b q (plan c r no_plans))) n h =
    fits_as (optional slot.Effect ∷ expression ∷ optional slot.Effect ∷ []) (plan at p (plan b (or_one q) (plan c r no_plans))) (h.0, (test_fit q h.1.0, (h.1.1.0, tt)))
usual_fit width (Op.Control Control.For) place (plan at p (plan b q (plan c r (plan d u rest)))) n h = absurd h.1.1.1
usual_fit width (Op.Control Control.Printf) place ps n h = absurd cc
usual_fit width (Op.Control Control.Fprintf) place ps n h = absurd cc
usual_fit width op place ps n h = fits_as (parameters_of op) ps h

letters_asked : (letters : List Letter) (n : ℕ) → are_asked (map by_letter letters ++ replicate n target) ≡ true
letters_asked [] n = targets_asked n
  where
    targets_asked : (n : ℕ) → are_asked (replicate n target) ≡ true
    targets_asked zero = refl
    targets_asked (suc n) = targets_asked n
letters_asked (Valued ∷ letters) n = letters_asked letters n
letters_asked (Kept ∷ letters) n = letters_asked letters n
letters_asked (Placed ∷ letters) n = letters_asked letters n
letters_asked (Used ∷ letters) n = letters_asked letters n
letters_asked (L.Raw size ∷ letters) n = letters_asked letters n

operands_asked : (letters : List Letter) → are_asked (map by_letter letters) ≡ true
operands_asked letters = subst (λ qs. are_asked qs ≡ true) (append-nil (map by_letter letters)) (letters_asked letters 0)

-- no argument of another operator may be missing
pub asked_of : (op : Op) → prints op ≡ false → are_asked (parameters_of op) ≡ true
unfolding parameters_of
asked_of (Op.Plain (Plain.Data DataOp.ToString)) n = refl
asked_of (Op.Plain (Plain.Data DataOp.CopyObject)) n = refl
asked_of (Op.Plain (Plain.Data DataOp.Match)) n = refl
asked_of (Op.Plain op) n = letters_asked (plain_row op).operands (plain_row op).targets
asked_of (Op.Symbolic (Symbolic.Operator op)) n = operands_asked (plain_row op).operands
asked_of (Op.Special Special.Buffer) n = refl
asked_of (Op.Declaration Declaration.Name) n = refl
asked_of (Op.Control Control.Printf) n = absurd cc
asked_of (Op.Control Control.Fprintf) n = absurd cc
asked_of op n = refl

-- only further arguments stand behind one
pub ordered_of : (op : Op) → is_ordered (parameters_of op) ≡ true
unfolding parameters_of
ordered_of (Op.Control Control.Printf) = refl
ordered_of (Op.Control Control.Fprintf) = refl
ordered_of op = asked_ordered (parameters_of op) (asked_of op refl)

pub ordered_as : (op : Op) (s : Slot) → is_ordered (parameters_as op s) ≡ true
ordered_as (Op.Special Special.Buffer) slot.CaseValue = refl
ordered_as (Op.Special Special.Buffer) slot.CaseMember = refl
ordered_as (Op.Special Special.Buffer) _ = ordered_of (Op.Special Special.Buffer)
ordered_as (Op.Special Special.Package) slot.CaseValue = refl
ordered_as (Op.Special Special.Package) _ = ordered_of (Op.Special Special.Package)
ordered_as op s = ordered_of op

values_as : (many : ℕ) (ps : Plans) → ArgumentsFit (replicate many (further slot.Expression)) ps → PlansAs FormedValues ps
values_as zero no_plans h = none_as FormedValues tt
values_as zero (plan place p ps) h = absurd h
values_as (suc many) no_plans h = none_as FormedValues tt
values_as (suc many) (plan place p ps) h = more_as FormedValues FormedValues (Fits slot.Expression) place p ps (λ t ts a b. (a.0, a.1, b)) h.0 (values_as many ps h.1)

-- a string is written as one
record IsWritten (p : Plan) : Type 0 where
  pub bytes : List ℕ
  pub is : p ≡ a_text bytes
  pub text : IsText bytes

is_string : (t : Tree) → IsString t → is_text t ≡ true
is_string (String text) h = refl
is_string _ h = absurd h

written_as : (p : Plan) → PlanAs IsString p → IsWritten p
unfolding numbered
written_as (a_text bytes) h = record { bytes = bytes; is = refl; text = h (record { id = 0; place = nowhere }) 0 }
written_as (a_form op args body) h =
    let here : At = record { id = 0; place = nowhere } in
    let t : Tree = form here op (numbered_all 0 args) (numbered_all (0 + nodes args) body) in
    absurd (never (is_text t) (no_text_form here op (numbered_all 0 args) (numbered_all (0 + nodes args) body)) (is_string t (h here 0)))
  where
    never : (b : Bool) → b ≡ false → b ≡ true → ⊥
    never true e f = absurd cc
    never false e f = absurd cc
written_as _ h = absurd (h (record { id = 0; place = nowhere }) 0)

told_none : (place : Place) (b : Bool) → counted place b ≡ [] → b ≡ true
told_none place true e = refl
told_none place false e = absurd cc

-- a format with as many arguments as it asks for
printed : (at : Place) (bytes : List ℕ) (rest : Plans) → IsText bytes → PlansAs FormedValues rest → how_many rest ≡ length (cut bytes).1 → PlansAs PrintedFit (plan at (a_text bytes) rest)
printed at bytes rest text values e =
    more_as PrintedFit (λ ts. FormedValues ts × (count ts ≡ how_many rest)) (λ t. t ≡ String bytes) at (a_text bytes) rest
    (λ t ts h k. subst (λ t. PrintedFit (tree t ts)) (sym h) (text, k.0, k.1 ∙ e)) (text_as (λ t. t ≡ String bytes) bytes refl) (λ m. (values m, count_as rest m))

format_fit : (place at : Place) (i : ℕ) (p : Plan) (rest : Plans) → PlanAs IsString p → PlansAs FormedValues rest
    → choose (holes_in p) [] (λ holes. counted place (nat_eq (suc i + how_many rest) (suc i + holes))) ≡ [] → PlansAs PrintedFit (plan at p rest)
format_fit place at i p rest h values e =
    let w : IsWritten p = written_as p h in
    let told : counted place (nat_eq (suc i + how_many rest) (suc i + length (cut w.bytes).1)) ≡ [] =
    subst (λ p. choose (holes_in p) [] (λ holes. counted place (nat_eq (suc i + how_many rest) (suc i + holes))) ≡ []) w.is e in
    let same : suc i + how_many rest ≡ suc i + length (cut w.bytes).1 = eqb-true (suc i + how_many rest) (suc i + length (cut w.bytes).1) (told_none place (nat_eq (suc i + how_many rest) (suc i + length (cut w.bytes).1)) told) in
    subst (λ p. PlansAs PrintedFit (plan at p rest)) (sym w.is) (printed at w.bytes rest w.text values (omega (arith, same)))

pub settled_fit : (width : Width) (op : Op) (place : Place) (ps : Plans) → format_faults op place ps ≡ [] → ArgumentsFit (parameters_of op) ps → PlansAs (SettledFit op) (settled width op place ps)
unfolding parameters_of
settled_fit width (Op.Control Control.Printf) place no_plans e h = absurd (false≢true h.0)
settled_fit width (Op.Control Control.Printf) place (plan at p rest) e h =
    format_fit place at 0 p rest h.0 (values_as 60 rest h.1) (subst (λ n. choose (holes_in p) [] (λ holes. counted place (nat_eq n (suc 0 + holes))) ≡ []) (let same : suc (how_many rest) ≡ suc 0 + how_many rest = omega arith in same) e)
settled_fit width (Op.Control Control.Fprintf) place no_plans e h = absurd (false≢true h.0)
settled_fit width (Op.Control Control.Fprintf) place (plan at p no_plans) e h = absurd (false≢true h.1.0)
settled_fit width (Op.Control Control.Fprintf) place (plan at p (plan b q rest)) e h =
    more_as PrintedIntoFit PrintedFit IsThere at p (plan b q rest) (λ t ts a k. (a, k)) h.0
    (format_fit place b 1 q rest h.1.0 (values_as 60 rest h.1.1) (subst (λ n. choose (holes_in q) [] (λ holes. counted place (nat_eq n (suc 1 + holes))) ≡ []) (let same : suc (suc (how_many rest)) ≡ suc 1 + how_many rest = omega arith in same) e))
settled_fit width op place ps e h = usual_fit width op place ps refl (none_missing (parameters_of op) ps (asked_of op refl) h)
