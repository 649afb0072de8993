-- Plans that give the same Locals make the same loops.
use Rattle.std.proofs.Common.{◌≡◌, ℕ, suc, ◌+◌, Bool, true, false, List, [], ◌∷◌, drop, refl, ap, ◌∙◌, arith}
use Rattle.asl_tree.specs.Tree.{Tree, Container', Scope, If, ElseIf, Else, While, Switch, Case, Default, Break, Continue, Trees, no_trees, tree}
use Rattle.hidden_locals.specs.Crossing.{have_continue}
use Rattle.hidden_locals.specs.Turns.{Plan, nth, local, flag, stored, zero_word, one_word, value_local, loop_of, loop_terms, continue_terms}
use Rattle.hidden_locals.specs.Switches.{case_test, opened, unswitched, unswitched_all, links, default_link}
use Rattle.switch_loops.specs.Links.{plan_as}

abbrev pub Same : Plan → ℕ → Plan → ℕ → Type 0
Same p l q m = (nth p.free p.levels ≡ nth q.free q.levels) × ((i : ℕ) → nth p.free (l + i) ≡ nth q.free (m + i))

deeper : (p q : Plan) (l m : ℕ) → Same p l q m → Same p (suc l) q (suc m)
deeper p q l m s = (s.0, λ i. further i)
  where
    further : (i : ℕ) → nth p.free (suc l + i) ≡ nth q.free (suc m + i)
    further i =
        let e : suc l + i ≡ l + suc i = omega arith in
        let f : m + suc i ≡ suc m + i = omega arith in
        ap (nth p.free) e ∙ s.1 (suc i) ∙ ap (nth q.free) f

same_value : (p q : Plan) (l m : ℕ) → Same p l q m → value_local p l ≡ value_local q m
same_value p q l m s =
    let e : l ≡ l + 0 = omega arith in
    let f : m + 0 ≡ m = omega arith in
    ap local (ap (nth p.free) e ∙ s.1 0 ∙ ap (nth q.free) f)

same_loop : (p q : Plan) (crossed inside : Bool) (turn : Tree) (rest : Trees) → nth p.free p.levels ≡ nth q.free q.levels → loop_terms p crossed inside turn rest ≡ loop_terms q crossed inside turn rest
same_loop p q false inside turn rest e = refl
same_loop p q true false turn rest e = ap (λ i. tree (stored zero_word (local i)) (tree turn (tree (If (local i) (tree (stored zero_word (local i)) (tree Continue no_trees))) rest))) e
same_loop p q true true turn rest e = ap (λ i. tree turn (tree (If (local i) (tree Break no_trees)) rest)) e

same_continue : (p q : Plan) (inside : Bool) (rest : Trees) → nth p.free p.levels ≡ nth q.free q.levels → continue_terms p inside rest ≡ continue_terms q inside rest
same_continue p q false rest e = refl
same_continue p q true rest e = ap (λ i. tree (stored one_word (local i)) (tree Break rest)) e

mutual
  pub same_term : (p q : Plan) (l m : ℕ) → Same p l q m → (inside : Bool) (t : Tree) → unswitched p l inside t ≡ unswitched q m inside t
  same_term p q l m s inside (If test body) = ap (If test) (same_terms p q l m s inside body)
  same_term p q l m s inside (ElseIf test body) = ap (ElseIf test) (same_terms p q l m s inside body)
  same_term p q l m s inside (Else body) = ap Else (same_terms p q l m s inside body)
  same_term p q l m s inside (While test body) = ap (While test) (same_terms p q l m s false body)
  same_term p q l m s inside (Container' kind at name body) = ap (Container' kind at name) (same_terms p q l m s inside body)
  same_term p q l m s inside (Scope here at name body) = ap (Scope here at name) (same_terms p q l m s inside body)
  same_term p q l m s inside t = refl

  pub same_terms : (p q : Plan) (l m : ℕ) → Same p l q m → (inside : Bool) (ts : Trees) → unswitched_all p l inside ts ≡ unswitched_all q m inside ts
  same_terms p q l m s inside no_trees = refl
  same_terms p q l m s inside (tree (Switch value cases) rest) =
      same_loop p q (have_continue cases) inside (loop_of value (value_local p l) (opened (links p l cases (default_link p l cases)))) (unswitched_all p l inside rest) s.0
      ∙ ap (λ ts. loop_terms q (have_continue cases) inside (loop_of value (value_local p l) (opened (links p l cases (default_link p l cases)))) ts) (same_terms p q l m s inside rest)
      ∙ ap (λ x. loop_terms q (have_continue cases) inside (loop_of value x (opened (links p l cases (default_link p l cases)))) (unswitched_all q m inside rest)) (same_value p q l m s)
      ∙ ap (λ o. loop_terms q (have_continue cases) inside (loop_of value (value_local q m) (opened o)) (unswitched_all q m inside rest)) (same_links p q l m s cases (default_link p l cases) (default_link q m cases) (same_default p q l m s cases))
  same_terms p q l m s inside (tree Continue rest) =
      same_continue p q inside (unswitched_all p l inside rest) s.0 ∙ ap (continue_terms q inside) (same_terms p q l m s inside rest)
  same_terms p q l m s inside (tree t rest) =
      ap (λ x. tree x (unswitched_all p l inside rest)) (same_term p q l m s inside t) ∙ ap (tree (unswitched q m inside t)) (same_terms p q l m s inside rest)

  same_links : (p q : Plan) (l m : ℕ) → Same p l q m → (ts d e : Trees) → d ≡ e → links p l ts d ≡ links q m ts e
  same_links p q l m s no_trees d e h = h
  same_links p q l m s (tree (Case value body) rest) d e h =
      ap (λ x. tree (ElseIf (case_test x value) (unswitched_all p (suc l) true body)) (links p l rest d)) (same_value p q l m s)
      ∙ ap (λ ts. tree (ElseIf (case_test (value_local q m) value) ts) (links p l rest d)) (same_terms p q (suc l) (suc m) (deeper p q l m s) true body)
      ∙ ap (tree (ElseIf (case_test (value_local q m) value) (unswitched_all q (suc m) true body))) (same_links p q l m s rest d e h)
  same_links p q l m s (tree t rest) d e h = same_links p q l m s rest d e h

  same_default : (p q : Plan) (l m : ℕ) → Same p l q m → (ts : Trees) → default_link p l ts ≡ default_link q m ts
  same_default p q l m s no_trees = refl
  same_default p q l m s (tree (Default body) rest) = ap (λ ts. tree (Else ts) no_trees) (same_terms p q (suc l) (suc m) (deeper p q l m s) true body)
  same_default p q l m s (tree t rest) = same_default p q l m s rest

-- the Locals that are left one level deeper
nth_drop : (values : List ℕ) (i : ℕ) → nth values (suc i) ≡ nth (drop 1 values) i
nth_drop [] i = refl
nth_drop (x ∷ xs) i = refl

pub left_deeper : (flag : ℕ) (values : List ℕ) → Same (plan_as flag values) 2 (plan_as flag (drop 1 values)) 1
left_deeper flag values = (refl, λ i. further i)
  where
    further : (i : ℕ) → nth (flag ∷ values) (2 + i) ≡ nth (flag ∷ drop 1 values) (1 + i)
    further i =
        let e : 2 + i ≡ suc (suc i) = omega arith in
        let f : suc i ≡ 1 + i = omega arith in
        ap (nth (flag ∷ values)) e ∙ nth_drop values i ∙ ap (nth (flag ∷ drop 1 values)) f

-- all Locals of a plan, and its flag
pub plan_whole : (p : Plan) (f : ℕ) → f ≡ nth p.free p.levels → Same (plan_as f p.free) 1 p 0
plan_whole p f e = (e, λ i. further i)
  where
    further : (i : ℕ) → nth (f ∷ p.free) (1 + i) ≡ nth p.free (0 + i)
    further i =
        let e : 1 + i ≡ suc i = omega arith in
        let g : i ≡ 0 + i = omega arith in
        ap (nth (f ∷ p.free)) e ∙ ap (nth p.free) g
