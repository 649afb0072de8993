-- A program has Locals enough for its Switches with what stands for its Printf, Fprintf and For where it had them: a step that is copied has no Switch in
-- it, and names no further Local.
use Rattle.std.proofs.Common.{◌≡◌, ℕ, suc, Bool, true, false, List, [], ◌∷◌, ◌++◌, refl, sym, ap, ◌∙◌, subst, arith}
use Rattle.std.specs.Prelude.{if◌then◌else◌, ◌&&◌, ◌||◌, not, max}
use Rattle.asl_tree.specs.Formats.{cut}
use Rattle.asl_tree.specs.Tree.{Tree, String, Omitted, Return, Name, Alias, External, Method, Mutex, Event, Container', Scope, If, ElseIf, Else, While, For, Print, Switch, Case, Default, Continue, OperationRegion, Field, IndexField, BankField, CreateField, Trees, no_trees, tree}
use Rattle.acpi_names.specs.Terms.{is_value, are_values, is_term, are_terms}
use Rattle.acpi_names.proofs.Mentions.{first_true, second_true}
use Rattle.asl_meaning.specs.Continues.{has_continue, have_continue}
use Rattle.asl_prints.specs.Forms as forms
use Rattle.asl_prints.specs.Forms.{followed, concatenated, with_text, with_arguments, print_tree, optional, stepped, stepped_all, while_tree, for_trees, is_steppable, is_filled, spread, formed, formed_args, formed_all}
use Rattle.hidden_locals.specs.Locals.{locals, locals_all}
use Rattle.hidden_locals.specs.Switches.{depth, depth_all, is_crossed, are_crossed, HasLocals, HaveLocalsInside, HaveLocals}
use Rattle.hidden_locals.proofs.Named.{named_left, named_right}
use Rattle.hidden_locals.proofs.Steady.{Fewer, fewer_none, fewer_join, fewer_left, fewer_right, fewer_both, Steady, SteadyAll, same_term, same_terms, steady_then, steady_more, have_enough, steady_if, steady_else_if, steady_else, steady_while, steady_for, steady_switch, steady_case, steady_default, steady_container, steady_scope, steady_method}
use Rattle.form_shapes.proofs.Values.{value_same, args_same}
use Rattle.form_shapes.proofs.Light.{either, either_third}

fewer_first : (xs ys zs : List ℕ) → Fewer (xs ++ ys) zs → Fewer xs zs
fewer_first xs ys zs h = λ i e. h i (named_left xs ys i e)

fewer_second : (xs ys zs : List ℕ) → Fewer (xs ++ ys) zs → Fewer ys zs
fewer_second xs ys zs h = λ i e. h i (named_right xs ys i e)

fewer_same : (xs : List ℕ) → Fewer xs xs
fewer_same xs = λ i e. e

-- ---- terms behind others

followed_depth : (ts us : Trees) → depth_all (followed ts us) ≡ max (depth_all ts) (depth_all us)
followed_depth no_trees us = omega arith
followed_depth (tree t ts) us = let more : depth_all (followed ts us) ≡ max (depth_all ts) (depth_all us) = followed_depth ts us in omega (arith, more)

followed_crossed : (ts us : Trees) → are_crossed (followed ts us) ≡ (are_crossed ts || are_crossed us)
followed_crossed no_trees us = refl
followed_crossed (tree t ts) us = ap (λ b. is_crossed t || b) (followed_crossed ts us) ∙ either_third (is_crossed t) (are_crossed ts) (are_crossed us)

followed_continue : (ts us : Trees) → have_continue (followed ts us) ≡ (have_continue ts || have_continue us)
followed_continue no_trees us = refl
followed_continue (tree t ts) us = ap (λ b. has_continue t || b) (followed_continue ts us) ∙ either_third (has_continue t) (have_continue ts) (have_continue us)

followed_fewer : (ts us : Trees) (zs : List ℕ) → Fewer (locals_all ts) zs → Fewer (locals_all us) zs → Fewer (locals_all (followed ts us)) zs
followed_fewer no_trees us zs h k = k
followed_fewer (tree t ts) us zs h k =
    fewer_join (locals t) (locals_all (followed ts us)) zs (fewer_first (locals t) (locals_all ts) zs h) (followed_fewer ts us zs (fewer_second (locals t) (locals_all ts) zs h) k)

followed_has : (ts us : Trees) → HaveLocalsInside ts → HaveLocalsInside us → HaveLocalsInside (followed ts us)
followed_has no_trees us h k = k
followed_has (tree t ts) us h k = (h.0, followed_has ts us h.1 k)

-- ---- a start or a step

-- terms with no Switch, no Continue and no method in them
record AreFlat (ts : Trees) : Type 0 where
  no_depth : depth_all ts ≡ 0
  no_crossed : are_crossed ts ≡ false
  no_continue : have_continue ts ≡ false
  has : HaveLocalsInside ts

flat : (t : Tree) → forms.is_expression t ≡ true → AreFlat (optional t)
flat Omitted e = record { no_depth = refl; no_crossed = refl; no_continue = refl; has = tt }
flat (Method at name flags body) e = absurd cc
flat (Container' kind at name body) e = absurd cc
flat (Scope here at name body) e = absurd cc
flat (If test body) e = absurd cc
flat (ElseIf test body) e = absurd cc
flat (Else body) e = absurd cc
flat (While test body) e = absurd cc
flat (For start test step body) e = absurd cc
flat (Switch value cases) e = absurd cc
flat (Case value body) e = absurd cc
flat (Default body) e = absurd cc
flat Continue e = absurd cc
flat t e = record { no_depth = omega arith; no_crossed = refl; no_continue = refl; has = (tt, tt) }

optional_fewer : (t : Tree) → Fewer (locals_all (optional t)) (locals t)
optional_fewer Omitted = fewer_none []
optional_fewer t = fewer_join (locals t) [] (locals t) (fewer_same (locals t)) (fewer_none (locals t))

-- ---- steps before each Continue

module _ (steps : Trees) (are_flat : AreFlat steps) where
  -- Switches and Continues stand as before, and what is named is named by the steps or before
  record Like (t' t : Tree) : Type 0 where
    same_depth : depth t' ≡ depth t
    same_crossed : is_crossed t' ≡ is_crossed t
    same_continue : has_continue t' ≡ has_continue t
    fewer : (zs : List ℕ) → Fewer (locals_all steps) zs → Fewer (locals t) zs → Fewer (locals t') zs
    has : HasLocals t → HasLocals t'

  record AreLike (ts' ts : Trees) : Type 0 where
    same_depth : depth_all ts' ≡ depth_all ts
    same_crossed : are_crossed ts' ≡ are_crossed ts
    same_continue : have_continue ts' ≡ have_continue ts
    fewer : (zs : List ℕ) → Fewer (locals_all steps) zs → Fewer (locals_all ts) zs → Fewer (locals_all ts') zs
    has : HaveLocalsInside ts → HaveLocalsInside ts'

  like_itself : (t : Tree) → Like t t
  like_itself t = record { same_depth = refl; same_crossed = refl; same_continue = refl; fewer = λ zs h k. k; has = λ h. h }

  value_fewer : (value : Tree) (body' body : Trees) → AreLike body' body → (zs : List ℕ) → Fewer (locals_all steps) zs → Fewer (locals value ++ locals_all body) zs → Fewer (locals value ++ locals_all body') zs
  value_fewer value body' body b zs h k =
      fewer_join (locals value) (locals_all body') zs (fewer_first (locals value) (locals_all body) zs k) (b.fewer zs h (fewer_second (locals value) (locals_all body) zs k))

  like_more : (t' t : Tree) (ts' ts : Trees) → Like t' t → AreLike ts' ts → AreLike (tree t' ts') (tree t ts)
  like_more t' t ts' ts a b =
      let d : depth t' ≡ depth t = a.same_depth in
      let e : depth_all ts' ≡ depth_all ts = b.same_depth in
      record {
        same_depth = omega (arith, d, e);
        same_crossed = either (is_crossed t') (is_crossed t) (are_crossed ts') (are_crossed ts) a.same_crossed b.same_crossed;
        same_continue = either (has_continue t') (has_continue t) (have_continue ts') (have_continue ts) a.same_continue b.same_continue;
        fewer = λ zs h k. fewer_join (locals t') (locals_all ts') zs (a.fewer zs h (fewer_first (locals t) (locals_all ts) zs k)) (b.fewer zs h (fewer_second (locals t) (locals_all ts) zs k));
        has = λ h. (a.has h.0, b.has h.1);
      }

  like_continue : (ts' ts : Trees) → AreLike ts' ts → AreLike (followed steps (tree Continue ts')) (tree Continue ts)
  like_continue ts' ts b =
      let none : depth_all steps ≡ 0 = are_flat.no_depth in
      let e : depth_all ts' ≡ depth_all ts = b.same_depth in
      let more : depth_all (followed steps (tree Continue ts')) ≡ max (depth_all steps) (depth_all (tree Continue ts')) = followed_depth steps (tree Continue ts') in
      record {
        same_depth = omega (arith, none, e, more);
        same_crossed = followed_crossed steps (tree Continue ts') ∙ ap (λ c. c || are_crossed ts') are_flat.no_crossed ∙ b.same_crossed;
        same_continue = followed_continue steps (tree Continue ts') ∙ ap (λ c. c || true) are_flat.no_continue;
        fewer = λ zs h k. followed_fewer steps (tree Continue ts') zs h (b.fewer zs h k);
        has = λ h. followed_has steps (tree Continue ts') are_flat.has (tt, b.has h.1);
      }

  mutual
    step_like : (t : Tree) → Like (stepped steps t) t
    step_like (If test body) =
        let b = steps_like body in record { same_depth = b.same_depth; same_crossed = b.same_crossed; same_continue = b.same_continue; fewer = value_fewer test (stepped_all steps body) body b; has = b.has }
    step_like (ElseIf test body) =
        let b = steps_like body in record { same_depth = b.same_depth; same_crossed = b.same_crossed; same_continue = b.same_continue; fewer = value_fewer test (stepped_all steps body) body b; has = b.has }
    step_like (Else body) = let b = steps_like body in record { same_depth = b.same_depth; same_crossed = b.same_crossed; same_continue = b.same_continue; fewer = b.fewer; has = b.has }
    step_like (Switch value cases) =
        let b = steps_like cases in
        record {
          same_depth = ap suc b.same_depth;
          same_crossed = either (have_continue (stepped_all steps cases)) (have_continue cases) (are_crossed (stepped_all steps cases)) (are_crossed cases) b.same_continue b.same_crossed;
          same_continue = b.same_continue;
          fewer = value_fewer value (stepped_all steps cases) cases b;
          has = b.has;
        }
    step_like (Case value body) =
        let b = steps_like body in record { same_depth = b.same_depth; same_crossed = b.same_crossed; same_continue = b.same_continue; fewer = value_fewer value (stepped_all steps body) body b; has = b.has }
    step_like (Default body) = let b = steps_like body in record { same_depth = b.same_depth; same_crossed = b.same_crossed; same_continue = b.same_continue; fewer = b.fewer; has = b.has }
    step_like t = like_itself t

    steps_like : (ts : Trees) → AreLike (stepped_all steps ts) ts
    steps_like no_trees = record { same_depth = refl; same_crossed = refl; same_continue = refl; fewer = λ zs h k. k; has = λ h. h }
    steps_like (tree Continue ts) = like_continue (stepped_all steps ts) ts (steps_like ts)
    steps_like (tree t ts) = like_more (stepped steps t) t (stepped_all steps ts) ts (step_like t) (steps_like ts)

-- ---- a For

loop_steady : (start test step : Tree) (body rest : Trees) → forms.is_expression start ≡ true → forms.is_expression step ≡ true → SteadyAll (followed (for_trees start test step body) rest) (tree (For start test step body) rest)
loop_steady start test step body rest e f = record {
  same_depth = omega (arith, depth_begin, depth_step, depth_front, depth_turns, depth_loop, depth_whole);
  same_crossed = crossed_whole;
  same_continue = continue_whole;
  fewer = followed_fewer loop rest all fewer_loop (fewer_right (locals_all rest) (locals (For start test step body)) (locals_all rest) (fewer_same (locals_all rest)));
  has = λ h. followed_has loop rest (followed_has (optional start) turn begin.has (followed_has front (optional step) (like.has h.0) ends.has, tt)) h.1;
}
  where
    begin : AreFlat (optional start)
    begin = flat start e

    ends : AreFlat (optional step)
    ends = flat step f

    front : Trees
    front = stepped_all (optional step) body

    turns : Trees
    turns = followed front (optional step)

    turn : Trees
    turn = tree (While test turns) no_trees

    loop : Trees
    loop = for_trees start test step body

    all : List ℕ
    all = locals (For start test step body) ++ locals_all rest

    like : AreLike (optional step) ends front body
    like = steps_like (optional step) ends body

    depth_begin : depth_all (optional start) ≡ 0
    depth_begin = begin.no_depth

    depth_step : depth_all (optional step) ≡ 0
    depth_step = ends.no_depth

    depth_front : depth_all front ≡ depth_all body
    depth_front = like.same_depth

    depth_turns : depth_all turns ≡ max (depth_all front) (depth_all (optional step))
    depth_turns = followed_depth front (optional step)

    depth_loop : depth_all loop ≡ max (depth_all (optional start)) (max (depth_all turns) 0)
    depth_loop = followed_depth (optional start) turn

    depth_whole : depth_all (followed loop rest) ≡ max (depth_all loop) (depth_all rest)
    depth_whole = followed_depth loop rest

    none_right : (a : Bool) → (a || false) ≡ a
    none_right true = refl
    none_right false = refl

    crossed_whole : are_crossed (followed loop rest) ≡ (are_crossed body || are_crossed rest)
    crossed_whole =
        followed_crossed loop rest
        ∙ ap (λ c. c || are_crossed rest)
        (followed_crossed (optional start) turn ∙ ap (λ c. c || are_crossed turn) begin.no_crossed ∙ none_right (are_crossed turns) ∙ followed_crossed front (optional step) ∙ ap (λ c. are_crossed front || c) ends.no_crossed
        ∙ none_right (are_crossed front) ∙ like.same_crossed)

    continue_whole : have_continue (followed loop rest) ≡ have_continue rest
    continue_whole = followed_continue loop rest ∙ ap (λ c. c || have_continue rest) (followed_continue (optional start) turn ∙ ap (λ c. c || false) begin.no_continue)

    in_body : List ℕ
    in_body = locals step ++ locals_all body

    fewer_steps : Fewer (locals_all (optional step)) all
    fewer_steps =
        let inside : Fewer (locals_all (optional step)) in_body = fewer_left (locals_all (optional step)) (locals step) (locals_all body) (optional_fewer step) in
        fewer_left (locals_all (optional step)) (locals (For start test step body)) (locals_all rest)
        (fewer_right (locals_all (optional step)) (locals start) (locals test ++ in_body) (fewer_right (locals_all (optional step)) (locals test) in_body inside))

    fewer_body : Fewer (locals_all body) all
    fewer_body =
        let inside : Fewer (locals_all body) in_body = fewer_right (locals_all body) (locals step) (locals_all body) (fewer_same (locals_all body)) in
        fewer_left (locals_all body) (locals (For start test step body)) (locals_all rest) (fewer_right (locals_all body) (locals start) (locals test ++ in_body) (fewer_right (locals_all body) (locals test) in_body inside))

    fewer_test : Fewer (locals test) all
    fewer_test = fewer_left (locals test) (locals (For start test step body)) (locals_all rest) (fewer_right (locals test) (locals start) (locals test ++ in_body) (fewer_left (locals test) (locals test) in_body (fewer_same (locals test))))

    fewer_start : Fewer (locals_all (optional start)) all
    fewer_start = fewer_left (locals_all (optional start)) (locals (For start test step body)) (locals_all rest) (fewer_left (locals_all (optional start)) (locals start) (locals test ++ in_body) (optional_fewer start))

    fewer_loop : Fewer (locals_all loop) all
    fewer_loop =
        followed_fewer (optional start) turn all fewer_start
        (fewer_join (locals test ++ locals_all turns) [] all (fewer_join (locals test) (locals_all turns) all fewer_test (followed_fewer front (optional step) all (like.fewer all fewer_steps fewer_body) fewer_steps)) (fewer_none all))

-- ---- what prints

joined_fewer : (a b : Tree) (zs : List ℕ) → Fewer (locals a) zs → Fewer (locals b) zs → Fewer (locals (concatenated a b)) zs
joined_fewer a b zs h k = fewer_join (locals a ++ (locals b ++ [])) [] zs (fewer_join (locals a) (locals b ++ []) zs h (fewer_join (locals b) [] zs k (fewer_none zs))) (fewer_none zs)

text_fewer : (t : Tree) (text : List ℕ) (zs : List ℕ) → Fewer (locals t) zs → Fewer (locals (with_text t text)) zs
text_fewer t [] zs h = h
text_fewer t (c ∷ text) zs h = joined_fewer t (String (c ∷ text)) zs h (fewer_none zs)

arguments_fewer : (t : Tree) (texts : List (List ℕ)) (args : Trees) (zs : List ℕ) → Fewer (locals t) zs → Fewer (locals_all args) zs → Fewer (locals (with_arguments t texts args)) zs
arguments_fewer t [] args zs h k = h
arguments_fewer t (text ∷ texts) no_trees zs h k = h
arguments_fewer t (text ∷ texts) (tree arg args) zs h k =
    arguments_fewer (with_text (concatenated t arg) text) texts args zs (text_fewer (concatenated t arg) text zs (joined_fewer t arg zs h (fewer_first (locals arg) (locals_all args) zs k))) (fewer_second (locals arg) (locals_all args) zs k)

print_fewer : (place : Tree) (format : List ℕ) (args : Trees) → Fewer (locals (print_tree place format args)) (locals place ++ locals_all args)
print_fewer place format args =
    let all : List ℕ = locals place ++ locals_all args in
    let value : Tree = with_arguments (String (cut format).0) (cut format).1 args in
    fewer_join (locals value ++ (locals place ++ [])) [] all
    (fewer_join (locals value) (locals place ++ []) all (arguments_fewer (String (cut format).0) (cut format).1 args all (fewer_none all) (fewer_right (locals_all args) (locals place) (locals_all args) (fewer_same (locals_all args))))
    (fewer_join (locals place) [] all (fewer_left (locals place) (locals place) (locals_all args) (fewer_same (locals place))) (fewer_none all)))
    (fewer_none all)

print_steady : (place : Tree) (format : List ℕ) (args : Trees) → Steady (print_tree place format args) (Print place format args)
print_steady place format args = record { same_depth = refl; same_crossed = refl; same_continue = refl; fewer = print_fewer place format args; has = λ k. tt }

-- ---- a term before others

spread_steady : (t : Tree) (rest : Trees) → SteadyAll (spread t rest) (tree t rest)
spread_steady (For start test step body) rest = by (is_steppable start step body) refl
  where
    by : (c : Bool) → is_steppable start step body ≡ c → SteadyAll (if c then followed (for_trees start test step body) rest else tree (For start test step body) rest) (tree (For start test step body) rest)
    by true e =
        let others = second_true (forms.is_expression start) (forms.is_expression step && not (forms.have_far_continue body)) e in
        loop_steady start test step body rest (first_true (forms.is_expression start) (forms.is_expression step && not (forms.have_far_continue body)) e) (first_true (forms.is_expression step) (not (forms.have_far_continue body)) others)
    by false e = same_terms (tree (For start test step body) rest)
spread_steady (Print place format args) rest = by (is_filled format args)
  where
    by : (c : Bool) → SteadyAll (if c then tree (print_tree place format args) rest else tree (Print place format args) rest) (tree (Print place format args) rest)
    by true = steady_more (print_tree place format args) (Print place format args) rest rest (print_steady place format args) (same_terms rest)
    by false = same_terms (tree (Print place format args) rest)
spread_steady t rest = same_terms (tree t rest)

-- ---- programs

value_steady : (t : Tree) → is_value t ≡ true → Steady (formed t) t
value_steady t e = subst (λ u. Steady u t) (sym (value_same t e)) (same_term t)

value_fewest : (t : Tree) → is_value t ≡ true → Fewer (locals (formed t)) (locals t)
value_fewest t e = (value_steady t e).fewer

args_fewest : (ts : Trees) → are_values ts ≡ true → Fewer (locals_all (formed_args ts)) (locals_all ts)
args_fewest ts e = subst (λ us. Fewer (locals_all us) (locals_all ts)) (sym (args_same ts e)) (fewer_same (locals_all ts))

mutual
  steady : (t : Tree) → is_term t ≡ true → Steady (formed t) t
  steady (Return value) e = record { same_depth = refl; same_crossed = refl; same_continue = refl; fewer = value_fewest value e; has = λ k. tt }
  steady (Name at name value) e = record { same_depth = refl; same_crossed = refl; same_continue = refl; fewer = value_fewest value e; has = λ k. tt }
  steady (Alias from source at name) e = same_term (Alias from source at name)
  steady (External here at name type parameters) e = same_term (External here at name type parameters)
  steady (Method at name flags body) e = steady_method at name flags (formed_all body) body (all_steady body e)
  steady (Mutex at name level) e = same_term (Mutex at name level)
  steady (Event at name) e = same_term (Event at name)
  steady (Container' kind at name body) e = steady_container kind at name (formed_all body) body (all_steady body e)
  steady (Scope here at name body) e = steady_scope here at name (formed_all body) body (all_steady body e)
  steady (If test body) e = steady_if (formed test) test (formed_all body) body (value_fewest test (first_true (is_value test) (are_terms body) e)) (all_steady body (second_true (is_value test) (are_terms body) e))
  steady (ElseIf test body) e = steady_else_if (formed test) test (formed_all body) body (value_fewest test (first_true (is_value test) (are_terms body) e)) (all_steady body (second_true (is_value test) (are_terms body) e))
  steady (Else body) e = steady_else (formed_all body) body (all_steady body e)
  steady (While test body) e = steady_while (formed test) test (formed_all body) body (value_fewest test (first_true (is_value test) (are_terms body) e)) (all_steady body (second_true (is_value test) (are_terms body) e))
  steady (For start test step body) e =
      let others = second_true (is_value start) (is_value test && (is_value step && are_terms body)) e in
      let last = second_true (is_value test) (is_value step && are_terms body) others in
      steady_for (formed start) start (formed test) test (formed step) step (formed_all body) body (value_fewest start (first_true (is_value start) (is_value test && (is_value step && are_terms body)) e))
      (value_fewest test (first_true (is_value test) (is_value step && are_terms body) others)) (value_fewest step (first_true (is_value step) (are_terms body) last)) (all_steady body (second_true (is_value step) (are_terms body) last))
  steady (Print place format args) e = record {
    same_depth = refl;
    same_crossed = refl;
    same_continue = refl;
    fewer = fewer_both (locals (formed place)) (locals place) (locals_all (formed_args args)) (locals_all args) (value_fewest place (first_true (is_value place) (are_values args) e)) (args_fewest args (second_true (is_value place) (are_values args) e));
    has = λ k. tt;
  }
  steady (Switch value cases) e = steady_switch (formed value) value (formed_all cases) cases (value_fewest value (first_true (is_value value) (are_terms cases) e)) (all_steady cases (second_true (is_value value) (are_terms cases) e))
  steady (Case value body) e = steady_case (formed value) value (formed_all body) body (value_fewest value (first_true (is_value value) (are_terms body) e)) (all_steady body (second_true (is_value value) (are_terms body) e))
  steady (Default body) e = steady_default (formed_all body) body (all_steady body e)
  steady (OperationRegion at name space args) e = record { same_depth = refl; same_crossed = refl; same_continue = refl; fewer = args_fewest args e; has = λ k. tt }
  steady (Field here from region flags items) e = same_term (Field here from region flags items)
  steady (IndexField here from index to register flags items) e = same_term (IndexField here from index to register flags items)
  steady (BankField here from region to bank value flags items) e = record { same_depth = refl; same_crossed = refl; same_continue = refl; fewer = value_fewest value e; has = λ k. tt }
  steady (CreateField form args at name) e = record { same_depth = refl; same_crossed = refl; same_continue = refl; fewer = args_fewest args e; has = λ k. tt }
  steady t e = value_steady t e

  all_steady : (ts : Trees) → are_terms ts ≡ true → SteadyAll (formed_all ts) ts
  all_steady no_trees e = same_terms no_trees
  all_steady (tree t ts) e =
      let first = first_true (is_term t) (are_terms ts) e in
      steady_then (formed_all (tree t ts)) (tree (formed t) (formed_all ts)) (tree t ts) (spread_steady (formed t) (formed_all ts))
      (steady_more (formed t) t (formed_all ts) ts (steady t first) (all_steady ts (second_true (is_term t) (are_terms ts) e)))

pub forms_have_locals : (program : Trees) → are_terms program ≡ true → HaveLocals program → HaveLocals (formed_all program)
forms_have_locals program e h = have_enough (formed_all program) program (all_steady program e) h
