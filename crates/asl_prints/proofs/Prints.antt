-- A Printf and an Fprintf do what the Store does that stands for them.
use Rattle.std.proofs.Common.{◌≡◌, ℕ, Bool, true, false, List, [], ◌∷◌, ◌++◌, Option, append_assoc, append-nil, refl, sym, ap, ◌∙◌, arith}
use Rattle.std.proofs.Math.Path.{fun_ext}
use Rattle.std.specs.Prelude.{◌&&◌}
use Rattle.acpi_values.specs.declared.width.Width.{Width}
use Rattle.acpi_values.specs.declared.operator.Plain.{Plain}
use Rattle.acpi_values.specs.declared.operator.DataOp.TheVariants as DataOp
use Rattle.acpi_values.specs.Operators.{Valued, Placed}
use Rattle.acpi_values.specs.Paths.{AbsolutePath}
use Rattle.acpi_values.specs.Values.{Datum, String, Value, Data}
use Rattle.acpi_values.specs.Conversions.{to_string, to_kind_of}
use Rattle.acpi_state.specs.State.{Store, State}
use Rattle.acpi_state.specs.Outcomes.{Flow, Normal, Step, Steps, Fails, Waits, done, then_run, act, value_of, on_flow}
use Rattle.acpi_state.specs.Actions.{give, and_then, computed, go_on}
use Rattle.acpi_state.specs.Acts.{Operand, OfValue, OfSpot, answer_or, data_of, act_of, last_of, give_datum, give_one, joined}
use Rattle.acpi_state.specs.Stores.{Spot, store, store_to}
use Rattle.asl_tree.specs.Formats.{cut}
use Rattle.asl_tree.specs.Names.{Known}
use Rattle.asl_tree.specs.Tree.{Tree, Omitted, Print, Trees, no_trees, tree}
use Rattle.asl_tree.specs.Tree as T
use Rattle.asl_meaning.specs.Meaning as S
use Rattle.asl_meaning.specs.Meaning.{SourceRun, two_values}
use Rattle.asl_prints.specs.Forms.{concatenated, with_text, with_arguments, print_tree, are_filled, are_given, is_filled}
use Rattle.asl_prints.proofs.Runs.{then_assoc, then_same}

abbrev as_text : List ℕ → SourceRun Value
as_text text = done (Data (String text))

second_true : (a b : Bool) → (a && b) ≡ true → b ≡ true
second_true true b h = h
second_true false b h = absurd (grind arith)

-- a run that gives a text, as one that gives a value
abbrev J : SourceRun (List ℕ) → SourceRun Value
J m = then_run m as_text

module _ (width : Width) (known : Known) (turns : ℕ) (call : AbsolutePath → List Value → SourceRun Flow) (scope : AbsolutePath) where
  abbrev R : Tree → Bool → SourceRun Flow
  R t due = S.run width known turns call t scope due

  abbrev V : Tree → SourceRun Value
  V t = then_run (R t false) value_of

  abbrev P : Tree → SourceRun Spot
  P t = S.spot width known turns call t scope

  abbrev X : Tree → SourceRun (List ℕ)
  X t = S.text_by width known (R t false)

  abbrev last : Operand → SourceRun (List Operand)
  last o = then_run (done []) (λ os. done (o ∷ os))

  abbrev with_value : Tree → Operand → SourceRun (List Operand)
  with_value b o = then_run (then_run (then_run (V b) (λ w. done (OfValue w))) last) (λ os. done (o ∷ os))

  abbrev with_spot : Tree → Operand → SourceRun (List Operand)
  with_spot b o = then_run (then_run (then_run (P b) (λ p. done (OfSpot p))) last) (λ os. done (o ∷ os))

  -- two operands, each as its letter asks
  both_values : (a b : Tree) → S.operands width known turns call (Valued ∷ Valued ∷ []) (tree a (tree b no_trees)) scope ≡ two_values (V a) (V b)
  both_values a b = then_assoc (V a) (λ v. done (OfValue v)) (with_value b) ∙ then_same (V a) second
    where
      second : (v : Value) → with_value b (OfValue v) ≡ then_run (V b) (λ w. done (OfValue v ∷ OfValue w ∷ []))
      second v =
          ap (λ m. then_run m (λ os. done (OfValue v ∷ os))) (then_assoc (V b) (λ w. done (OfValue w)) last) ∙ then_assoc (V b) (λ w. last (OfValue w)) (λ os. done (OfValue v ∷ os))

  value_and_place : (a b : Tree) → S.operands width known turns call (Valued ∷ Placed ∷ []) (tree a (tree b no_trees)) scope ≡ then_run (V a) (λ v. then_run (P b) (λ p. done (OfValue v ∷ OfSpot p ∷ [])))
  value_and_place a b = then_assoc (V a) (λ v. done (OfValue v)) (with_spot b) ∙ then_same (V a) second
    where
      second : (v : Value) → with_spot b (OfValue v) ≡ then_run (P b) (λ p. done (OfValue v ∷ OfSpot p ∷ []))
      second v =
          ap (λ m. then_run m (λ os. done (OfValue v ∷ os))) (then_assoc (P b) (λ p. done (OfSpot p)) last) ∙ then_assoc (P b) (λ p. last (OfSpot p)) (λ os. done (OfValue v ∷ os))

  abbrev nowhere : List Value → SourceRun Flow
  nowhere rs = then_run (S.store_all width known turns call (tree Omitted no_trees) rs scope) (λ u. done (last_of rs))

  abbrev concatenating : List Operand → SourceRun Flow
  concatenating os = then_run (act (act_of (Plain.Data DataOp.Concatenate) width os)) nowhere

  -- Concatenate of a text and a value is the text of both
  joins : (text : List ℕ) (w : Value) → then_run (concatenating (OfValue (Data (String text)) ∷ OfValue w ∷ [])) value_of ≡ then_run (act (and_then (data_of width w) (λ datum. give (to_string width datum)))) (λ more. as_text (text ++ more))
  joins text w = fun_ext (λ s. let r = data_of width w s.names s.store in by_step s r.0 r.1)
    where
      by_step : (s : State Trees) (r : Step Datum) (left : Store) →
          then_run (then_run (act (λ names t. go_on r (λ b. and_then (computed (to_kind_of width (String text) b)) (λ b. give_datum (joined width (String text) b))) names left)) nowhere) value_of s
          ≡ then_run (act (λ names t. go_on r (λ datum. give (to_string width datum)) names left)) (λ more. as_text (text ++ more)) s
      by_step s (Steps datum) left = refl
      by_step s (Fails f) left = refl
      by_step s Waits left = refl

  abbrev second_value : Tree → Value → SourceRun (List Operand)
  second_value b v = then_run (V b) (λ w. done (OfValue v ∷ OfValue w ∷ []))

  abbrev texted : Value → SourceRun (List ℕ)
  texted w = act (and_then (data_of width w) (λ datum. give (to_string width datum)))

  join_concat : (m : SourceRun (List ℕ)) (a b : Tree) → V a ≡ J m → V (concatenated a b) ≡ J (then_run m (λ first. then_run (X b) (λ more. done (first ++ more))))
  join_concat m a b e =
      ap (λ ops. then_run (then_run ops concatenating) value_of) (both_values a b) ∙ then_assoc (two_values (V a) (V b)) concatenating value_of
      ∙ ap (λ x. then_run (then_run x (second_value b)) (λ os. then_run (concatenating os) value_of)) e
      ∙ ap (λ x. then_run x (λ os. then_run (concatenating os) value_of)) (then_assoc m as_text (second_value b))
      ∙ then_assoc m (λ text. second_value b (Data (String text))) (λ os. then_run (concatenating os) value_of)
      ∙ then_same m both ∙ sym (then_assoc m (λ first. then_run (X b) (λ more. done (first ++ more))) as_text)
    where
      both : (text : List ℕ) → then_run (second_value b (Data (String text))) (λ os. then_run (concatenating os) value_of) ≡ then_run (then_run (X b) (λ more. done (text ++ more))) as_text
      both text =
          then_assoc (V b) (λ w. done (OfValue (Data (String text)) ∷ OfValue w ∷ [])) (λ os. then_run (concatenating os) value_of)
          ∙ then_same (V b) (λ w. joins text w)
          ∙ sym (then_assoc (V b) texted (λ more. as_text (text ++ more)))
          ∙ sym (then_assoc (X b) (λ more. done (text ++ more)) as_text)

  join_text : (m : SourceRun (List ℕ)) (t : Tree) (text : List ℕ) → V t ≡ J m → V (with_text t text) ≡ J (then_run m (λ first. done (first ++ text)))
  join_text m t [] e = e ∙ then_same m (λ first. ap as_text (sym (append-nil first))) ∙ sym (then_assoc m (λ first. done (first ++ [])) as_text)
  join_text m t (c ∷ text) e = join_concat m t (T.String (c ∷ text)) e

  abbrev one : SourceRun (List ℕ) → Tree → SourceRun (List ℕ)
  one m a = then_run m (λ first. then_run (X a) (λ more. done (first ++ more)))

  abbrev others : List (List ℕ) → Trees → SourceRun (List ℕ)
  others texts args = S.filled width known turns call texts args scope

  abbrev with_others : List (List ℕ) → Trees → List ℕ → SourceRun (List ℕ)
  with_others texts args first = then_run (others texts args) (λ rest. done (first ++ rest))

  join_all : (m : SourceRun (List ℕ)) (t : Tree) (texts : List (List ℕ)) (args : Trees) → are_filled texts args ≡ true → V t ≡ J m →
      V (with_arguments t texts args) ≡ J (then_run m (λ first. then_run (S.filled width known turns call texts args scope) (λ rest. done (first ++ rest))))
  join_all m t [] no_trees h e = e ∙ then_same m (λ first. ap as_text (sym (append-nil first))) ∙ sym (then_assoc m (λ first. done (first ++ [])) as_text)
  join_all m t [] (tree a args) h e = absurd (grind arith)
  join_all m t (text ∷ texts) no_trees h e = absurd (grind arith)
  join_all m t (text ∷ texts) (tree a args) h e =
      join_all (then_run (one m a) (λ first. done (first ++ text))) (with_text (concatenated t a) text) texts args h (join_text (one m a) (concatenated t a) text (join_concat m t a e))
      ∙ ap J regroup
    where
      grouped : (first more rest : List ℕ) → ((first ++ more) ++ text) ++ rest ≡ first ++ (more ++ (text ++ rest))
      grouped first more rest = append_assoc (first ++ more) text rest ∙ append_assoc first more (text ++ rest)

      onto : (first more : List ℕ) → with_others texts args ((first ++ more) ++ text) ≡ then_run (then_run (others texts args) (λ rest. done (more ++ (text ++ rest)))) (λ rest. done (first ++ rest))
      onto first more = then_same (others texts args) (λ rest. ap (λ (all : List ℕ). done all) (grouped first more rest)) ∙ sym (then_assoc (others texts args) (λ rest. done (more ++ (text ++ rest))) (λ rest. done (first ++ rest)))

      regroup : then_run (then_run (one m a) (λ first. done (first ++ text))) (with_others texts args) ≡ then_run m (λ first. then_run (S.filled width known turns call (text ∷ texts) (tree a args) scope) (λ rest. done (first ++ rest)))
      regroup =
          then_assoc (one m a) (λ first. done (first ++ text)) (with_others texts args) ∙ then_assoc m (λ first. then_run (X a) (λ more. done (first ++ more))) (λ first. with_others texts args (first ++ text))
          ∙ then_same m (λ first. then_assoc (X a) (λ more. done (first ++ more)) (λ all. with_others texts args (all ++ text)) ∙ then_same (X a) (λ more. onto first more)
          ∙ sym (then_assoc (X a) (λ more. then_run (others texts args) (λ rest. done (more ++ (text ++ rest)))) (λ rest. done (first ++ rest))))

  abbrev storing : List Operand → SourceRun Flow
  storing os = then_run (act (act_of (Plain.Data DataOp.Store) width os)) (λ rs. then_run (done (tt {0})) (λ u. done (last_of rs)))

  -- a Store of a value, and what follows it
  stores : (v : Value) (p : Spot) (go : Bool → SourceRun Flow) → then_run (storing (OfValue v ∷ OfSpot p ∷ [])) (λ f. on_flow f go) ≡ then_run (then_run (act (store width p v)) (λ u. done (Normal false))) (λ f. on_flow f go)
  stores v p go = fun_ext (λ s. let r = store_to width p v s.names s.store in by_step s r.0 r.1)
    where
      by_step : (s : State Trees) (r : Step (Option Value)) (left : Store) →
          then_run (then_run (act (λ names t. go_on r (λ answer. give_one (answer_or answer v)) names left)) (λ rs. then_run (done (tt {0})) (λ u. done (last_of rs)))) (λ f. on_flow f go) s
          ≡ then_run (then_run (act (λ names t. go_on r (λ answer. give (tt {0})) names left)) (λ u. done (Normal false))) (λ f. on_flow f go) s
      by_step s (Steps answer) left = refl
      by_step s (Fails f) left = refl
      by_step s Waits left = refl

  abbrev behind : Trees → Flow → SourceRun Flow
  behind rest f = on_flow f (S.run_all width known turns call rest scope)

  abbrev placed : Tree → Value → SourceRun (List Operand)
  placed place v = then_run (P place) (λ p. done (OfValue v ∷ OfSpot p ∷ []))

  abbrev stored : Trees → List Operand → SourceRun Flow
  stored rest os = then_run (storing os) (behind rest)

  put : (place : Tree) (rest : Trees) (text : List ℕ) → then_run (placed place (Data (String text))) (stored rest) ≡ then_run (then_run (P place) (λ p. then_run (act (store width p (Data (String text)))) (λ u. done (Normal false)))) (behind rest)
  put place rest text =
      then_assoc (P place) (λ p. done (OfValue (Data (String text)) ∷ OfSpot p ∷ [])) (stored rest)
      ∙ then_same (P place) (λ p. stores (Data (String text)) p (S.run_all width known turns call rest scope))
      ∙ sym (then_assoc (P place) (λ p. then_run (act (store width p (Data (String text)))) (λ u. done (Normal false))) (behind rest))

  -- what is stored: the first text, with the arguments and the other texts behind it
  all_of : (first : List ℕ) (texts : List (List ℕ)) (args : Trees) (k : Value → SourceRun Flow) → are_filled texts args ≡ true →
      then_run (V (with_arguments (T.String first) texts args)) k ≡ then_run (others texts args) (λ rest. k (Data (String (first ++ rest))))
  all_of first texts args k h =
      ap (λ m. then_run m k) (join_all (done first) (T.String first) texts args h refl)
      ∙ then_assoc (with_others texts args first) as_text k ∙ then_assoc (others texts args) (λ rest. done (first ++ rest)) (λ text. k (Data (String text)))

  -- before any other terms
  pub print_same : (place : Tree) (format : List ℕ) (args : Trees) (rest : Trees) (due : Bool) → is_filled format args ≡ true →
      S.run_all width known turns call (tree (print_tree place format args) rest) scope due ≡ then_run (R (Print place format args) due) (λ f. on_flow f (S.run_all width known turns call rest scope))
  print_same place format args rest due h =
      let text = with_arguments (T.String (cut format).0) (cut format).1 args in
      ap (λ ops. then_run (then_run ops storing) (behind rest)) (value_and_place text place)
      ∙ then_assoc (then_run (V text) (placed place)) storing (behind rest) ∙ then_assoc (V text) (placed place) (stored rest)
      ∙ all_of (cut format).0 (cut format).1 args (λ v. then_run (placed place v) (stored rest)) (second_true (are_given args) (are_filled (cut format).1 args) h)
      ∙ then_same (others (cut format).1 args) (λ more. put place rest ((cut format).0 ++ more))
      ∙ sym (then_assoc (others (cut format).1 args) (λ more. then_run (P place) (λ p. then_run (act (store width p (Data (String ((cut format).0 ++ more))))) (λ u. done (Normal false)))) (behind rest))
