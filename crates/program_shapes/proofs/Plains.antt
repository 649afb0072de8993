-- A plain operator whose arguments fit is shaped.
use Rattle.std.proofs.Common.{◌≡◌, ◌⊎◌, inl, inr, Bool, true, false, [], ◌∷◌, map, refl, sym, ◌∙◌, subst}
use Rattle.std.specs.Prelude.{if◌then◌else◌}
use Rattle.acpi_values.specs.declared.operator.IntOp.{IntOp}
use Rattle.acpi_values.specs.declared.operator.DataOp.{DataOp}
use Rattle.acpi_values.specs.declared.operator.EventOp.{EventOp}
use Rattle.acpi_values.specs.declared.operator.Plain.{Plain}
use Rattle.acpi_values.specs.Operators.{Valued, row_of}
use Rattle.asl_tree.specs.declared.term.Op.{Op}
use Rattle.asl_tree.specs.declared.term.Literal.TheVariants as Literal
use Rattle.asl_tree.specs.declared.term.Symbolic.TheVariants as Symbolic
use Rattle.asl_tree.specs.Tree.{Tree, Constant, InSlot, Debug, Omitted, Use, Apply, Operated, Misshapen, Trees, no_trees, tree, count}
use Rattle.asl_tree.specs.View.{fits, operands_as, plain_of, not_of, apply_of, operated, symbol_of}
use Rattle.asl_meaning.specs.Meaning.{spot_form}
use Rattle.aml_meaning.specs.Codes.{HasOwnCode}
use Rattle.aml_sessions.specs.Ready.{is_expression, SpotReady}
use Rattle.asl_words.specs.declared.operator.Slot.TheVariants as slot
use Rattle.asl_words.specs.Operators.{by_letter, by_row, parameters_of}
use Rattle.program_shapes.proofs.Fits.{Formed, FormedSpot, FormedAlone, FormedOperands, FormedSpots, IsThere, Fits, TreesFit, ArePlain, plain_fits, all_fit, operands_fit, valued_same}

fits_row : (op : Plain) (ts : Trees) → TreesFit (by_row (row_of op)) ts → ArePlain (row_of op).operands (row_of op).targets ts
fits_row op ts h = plain_fits (row_of op).operands (row_of op).targets ts h

-- the three comparisons are LNot of another
not_made : (op : IntOp) (ts : Trees) → Formed (plain_of (Plain.Number op) ts) → Formed (not_of op ts)
not_made op ts h = (tt, ((refl, h), tt), refl, tt)

number_made : (op : IntOp) (ts : Trees) → TreesFit (by_row (row_of (Plain.Number op))) ts → Formed (apply_of (Plain.Number op) ts)
number_made IntOp.LNotEqual ts h = let a = fits_row (Plain.Number IntOp.LEqual) ts h in not_made IntOp.LEqual ts (tt, a.operands, a.number, a.spots)
number_made IntOp.LLessEqual ts h = let a = fits_row (Plain.Number IntOp.LGreater) ts h in not_made IntOp.LGreater ts (tt, a.operands, a.number, a.spots)
number_made IntOp.LGreaterEqual ts h = let a = fits_row (Plain.Number IntOp.LLess) ts h in not_made IntOp.LLess ts (tt, a.operands, a.number, a.spots)
number_made op ts h = let a = fits_row (Plain.Number op) ts h in (tt, a.operands, a.number, a.spots)

number_value : (op : IntOp) (ts : Trees) → is_expression (apply_of (Plain.Number op) ts) ≡ true
number_value IntOp.LNotEqual ts = refl
number_value IntOp.LLessEqual ts = refl
number_value IntOp.LGreaterEqual ts = refl
number_value op ts = refl

event_made : (op : EventOp) (ts : Trees) → TreesFit (by_row (row_of (Plain.Event op))) ts → Formed (apply_of (Plain.Event op) ts)
event_made op ts h = let a = fits_row (Plain.Event op) ts h in (tt, a.operands, a.number, a.spots)

event_value : (op : EventOp) (ts : Trees) → is_expression (apply_of (Plain.Event op) ts) ≡ true
event_value op ts = refl

-- operators on data: the length of ToString may be left out
length_fits : (a b c : Tree) → Fits slot.Expression a → Fits slot.Expression b ⊎ (b ≡ Omitted) → Fits slot.Place c ⊎ (c ≡ Omitted) → Formed (plain_of (Plain.Data DataOp.ToString) (tree a (tree b (tree c no_trees))))
length_fits a b c ha (inl hb) hc = let p = fits_row (Plain.Data DataOp.ToString) (tree a (tree b (tree c no_trees))) (ha, (hb, (hc, tt))) in (tt, p.operands, p.number, p.spots)
length_fits a b c ha (inr e) hc = subst (λ b. Formed (plain_of (Plain.Data DataOp.ToString) (tree a (tree b (tree c no_trees))))) (sym e) left
  where
    whole : ArePlain (Valued ∷ Valued ∷ []) 1 (tree a (tree (Constant Literal.Ones) (tree c no_trees)))
    whole = plain_fits (Valued ∷ Valued ∷ []) 1 (tree a (tree (Constant Literal.Ones) (tree c no_trees))) (ha, ((refl, tt), (hc, tt)))

    same : operands_as (Valued ∷ Valued ∷ []) (tree a (tree Omitted (tree c no_trees))) ≡ operands_as (Valued ∷ Valued ∷ []) (tree a (tree (Constant Literal.Ones) (tree c no_trees)))
    same = valued_same (Valued ∷ []) a (tree Omitted (tree c no_trees)) ha.0 ∙ sym (valued_same (Valued ∷ []) a (tree (Constant Literal.Ones) (tree c no_trees)) ha.0)

    left : Formed (plain_of (Plain.Data DataOp.ToString) (tree a (tree Omitted (tree c no_trees))))
    left = (tt, subst (FormedOperands (Valued ∷ Valued ∷ [])) (sym same) whole.operands, whole.number, whole.spots)

to_string_made : (ts : Trees) → TreesFit (parameters_of (Op.Plain (Plain.Data DataOp.ToString))) ts → Formed (plain_of (Plain.Data DataOp.ToString) ts)
unfolding parameters_of
to_string_made (tree a (tree b (tree c no_trees))) h = length_fits a b c h.0 h.1.0 h.1.1.0
to_string_made no_trees h = absurd h
to_string_made (tree a no_trees) h = absurd h.1
to_string_made (tree a (tree b no_trees)) h = absurd h.1.1
to_string_made (tree a (tree b (tree c (tree d ds)))) h = absurd h.1.1.1

copy_made : (ts : Trees) → TreesFit (parameters_of (Op.Plain (Plain.Data DataOp.CopyObject))) ts → Formed (plain_of (Plain.Data DataOp.CopyObject) ts)
unfolding parameters_of
copy_made (tree a (tree b no_trees)) h = let p = fits_row (Plain.Data DataOp.CopyObject) (tree a (tree b no_trees)) h in (tt, p.operands, p.number, p.spots)
copy_made no_trees h = absurd h
copy_made (tree a no_trees) h = absurd h.1
copy_made (tree a (tree b (tree c cs))) h = absurd h.1.1

match_made : (ts : Trees) → TreesFit (parameters_of (Op.Plain (Plain.Data DataOp.Match))) ts → Formed (plain_of (Plain.Data DataOp.Match) ts)
unfolding parameters_of
match_made (tree a (tree b (tree c (tree d (tree e (tree f no_trees)))))) h =
    let p = fits_row (Plain.Data DataOp.Match) (tree a (tree b (tree c (tree d (tree e (tree f no_trees)))))) h in (tt, p.operands, p.number, p.spots)
match_made no_trees h = absurd h
match_made (tree a no_trees) h = absurd h.1
match_made (tree a (tree b no_trees)) h = absurd h.1.1
match_made (tree a (tree b (tree c no_trees))) h = absurd h.1.1.1
match_made (tree a (tree b (tree c (tree d no_trees)))) h = absurd h.1.1.1.1
match_made (tree a (tree b (tree c (tree d (tree e no_trees))))) h = absurd h.1.1.1.1.1
match_made (tree a (tree b (tree c (tree d (tree e (tree f (tree g gs))))))) h = absurd h.1.1.1.1.1.1

data_made : (op : DataOp) (ts : Trees) → TreesFit (parameters_of (Op.Plain (Plain.Data op))) ts → Formed (apply_of (Plain.Data op) ts)
unfolding parameters_of
data_made DataOp.ToString ts h = to_string_made ts h
data_made DataOp.CopyObject ts h = copy_made ts h
data_made DataOp.Match ts h = match_made ts h
data_made op ts h = let a = fits_row (Plain.Data op) ts h in (tt, a.operands, a.number, a.spots)

data_value : (op : DataOp) (ts : Trees) → is_expression (apply_of (Plain.Data op) ts) ≡ true
data_value op ts = refl

-- a plain operator is shaped, and is an expression
pub plain_made : (op : Plain) (ts : Trees) → TreesFit (parameters_of (Op.Plain op)) ts → (is_expression (apply_of op ts) ≡ true) × Formed (apply_of op ts)
unfolding parameters_of
plain_made (Plain.Number op) ts h = (number_value op ts, number_made op ts h)
plain_made (Plain.Data op) ts h = (data_value op ts, data_made op ts h)
plain_made (Plain.Event op) ts h = (event_value op ts, event_made op ts h)

-- an operator that is written as a symbol is shaped, and is an expression
operated_made : (op : Plain) (args : Trees) → FormedOperands (row_of op).operands args → (is_expression (operated op args) ≡ true) × Formed (operated op args)
operated_made (Plain.Number IntOp.LNotEqual) args h = (refl, (tt, tt, ((refl, (tt, tt, h)), tt)))
operated_made (Plain.Number IntOp.LLessEqual) args h = (refl, (tt, tt, ((refl, (tt, tt, h)), tt)))
operated_made (Plain.Number IntOp.LGreaterEqual) args h = (refl, (tt, tt, ((refl, (tt, tt, h)), tt)))
operated_made op args h = (refl, (tt, tt, h))

-- a symbol with its operands
symbol_by : (P : Tree → Type 0) (op : Plain) (ts : Trees) → TreesFit (map by_letter (row_of op).operands) ts → (FormedOperands (row_of op).operands (operands_as (row_of op).operands ts) → P (operated op (operands_as (row_of op).operands ts)))
    → P (symbol_of op ts)
symbol_by P op ts h made = by (fits (row_of op).operands ts) (all_fit (row_of op).operands ts h)
  where
    by : (b : Bool) → b ≡ true → P (if b then operated op (operands_as (row_of op).operands ts) else Misshapen)
    by true e = made (operands_fit (row_of op).operands ts h)
    by false e = absurd cc

pub symbol_made : (op : Plain) (ts : Trees) → TreesFit (parameters_of (Op.Symbolic (Symbolic.Operator op))) ts → (is_expression (symbol_of op ts) ≡ true) × Formed (symbol_of op ts)
unfolding parameters_of
symbol_made op ts h = symbol_by (λ t. (is_expression t ≡ true) × Formed t) op ts h (operated_made op (operands_as (row_of op).operands ts))

-- Index and DerefOf stand for places
pub index_spot : (ts : Trees) → TreesFit (parameters_of (Op.Plain (Plain.Data DataOp.Index))) ts → IsThere (apply_of (Plain.Data DataOp.Index) ts)
unfolding parameters_of
index_spot ts h = let a = fits_row (Plain.Data DataOp.Index) ts h in ((tt, (a.operands, a.number, a.spots)), refl)

pub deref_spot : (ts : Trees) → TreesFit (parameters_of (Op.Plain (Plain.Data DataOp.DerefOf))) ts → IsThere (apply_of (Plain.Data DataOp.DerefOf) ts)
unfolding parameters_of
deref_spot (tree t no_trees) h = (subst (λ args. FormedSpot (Apply (Plain.Data DataOp.DerefOf) args no_trees)) (sym (valued_same [] t no_trees h.0.0)) (tt, h.0), refl)
deref_spot no_trees h = absurd h
deref_spot (tree t (tree u us)) h = absurd h.1

pub symbol_spot : (ts : Trees) → TreesFit (parameters_of (Op.Symbolic (Symbolic.Operator (Plain.Data DataOp.Index)))) ts → IsThere (symbol_of (Plain.Data DataOp.Index) ts)
unfolding parameters_of
symbol_spot ts h = symbol_by IsThere (Plain.Data DataOp.Index) ts h (λ k. ((tt, tt, k), refl))

-- what stands for a place has a value, too
apply_value : (op : Plain) (args targets : Trees) → HasOwnCode op → SpotReady (spot_form op) (FormedOperands (row_of op).operands args × (count targets ≡ (row_of op).targets) × FormedSpots targets) (FormedAlone args targets)
    → Formed (Apply op args targets)
apply_value (Plain.Data DataOp.Index) args targets c h = (c, h.0, h.1, h.2)
apply_value (Plain.Data DataOp.DerefOf) (tree t no_trees) no_trees c h = (c, (h, tt), refl, tt)
apply_value (Plain.Data DataOp.DerefOf) _ _ c h = absurd h
apply_value _ args targets c h = absurd h

operated_value : (op : Plain) (args : Trees) → SpotReady (spot_form op) (FormedOperands (row_of op).operands args) ⊥ → FormedOperands (row_of op).operands args
operated_value (Plain.Data DataOp.Index) args h = h
operated_value _ args h = absurd h

never : {A : Type 0} → true ≡ false → A
never e = absurd cc

pub spot_value : (t : Tree) → IsThere t → Fits slot.Expression t
spot_value Omitted h = never h.1
spot_value Debug h = (refl, tt)
spot_value (InSlot slot) h = (refl, h.0)
spot_value (Use at name) h = (refl, h.0)
spot_value (Apply op args targets) h = (refl, apply_value op args targets h.0.0 h.0.1)
spot_value (Operated op args) h = (refl, (tt, h.0.1, operated_value op args h.0.2))
spot_value _ h = absurd h.0
