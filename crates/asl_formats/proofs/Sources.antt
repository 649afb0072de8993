-- Whether something else stands for a For and for what prints is told from the source: what its parts become changes nothing of that.
use Rattle.std.proofs.Common.{◌≡◌, ℕ, Bool, true, false, List, [], ◌∷◌, refl, ap, ◌∙◌, arith}
use Rattle.std.specs.Prelude.{if◌then◌else◌, ◌&&◌, ◌||◌, not}
use Rattle.asl_tree.specs.Formats.{cut}
use Rattle.asl_tree.specs.Tree.{Tree, Omitted, Call, Container', Scope, If, ElseIf, Else, For, Print, Switch, Case, Default, Continue, Trees, no_trees, tree}
use Rattle.asl_meaning.specs.Continues.{has_continue, have_continue}
use Rattle.asl_prints.specs.Forms.{followed, optional, for_trees, print_tree, while_tree, is_expression, is_given, are_given, are_filled, is_filled, is_steppable, has_far_continue, have_far_continue, spread, formed, formed_args, formed_all}
use Rattle.asl_formats.proofs.Loops.{first_true}

both : (a a' b b' : Bool) → a ≡ a' → b ≡ b' → (a && b) ≡ (a' && b')
both a a' b b' e f = ap (λ c. c && b) e ∙ ap (λ c. a' && c) f

either : (a a' b b' : Bool) → a ≡ a' → b ≡ b' → (a || b) ≡ (a' || b')
either a a' b b' e f = ap (λ c. c || b) e ∙ ap (λ c. a' || c) f

either_third : (a b c : Bool) → (a || (b || c)) ≡ ((a || b) || c)
either_third true b c = refl
either_third false b c = refl

-- ---- what prints

given_same : (t : Tree) → is_given (formed t) ≡ is_given t
given_same Omitted = refl
given_same t = refl

givens_same : (ts : Trees) → are_given (formed_args ts) ≡ are_given ts
givens_same no_trees = refl
givens_same (tree t ts) = both (is_given (formed t)) (is_given t) (are_given (formed_args ts)) (are_given ts) (given_same t) (givens_same ts)

texts_same : (texts : List (List ℕ)) (ts : Trees) → are_filled texts (formed_args ts) ≡ are_filled texts ts
texts_same [] no_trees = refl
texts_same [] (tree t ts) = refl
texts_same (text ∷ texts) no_trees = refl
texts_same (text ∷ texts) (tree t ts) = texts_same texts ts

pub filled_same : (format : List ℕ) (args : Trees) → is_filled format (formed_args args) ≡ is_filled format args
filled_same format args = both (are_given (formed_args args)) (are_given args) (are_filled (cut format).1 (formed_args args)) (are_filled (cut format).1 args) (givens_same args) (texts_same (cut format).1 args)

-- ---- expressions

pub expression_same : (t : Tree) → is_expression (formed t) ≡ is_expression t
expression_same (Call at name args) = refl
expression_same t = refl

-- ---- Continues that leave a term

silent_continue : (t : Tree) → is_expression t ≡ true → has_continue t ≡ false
silent_continue (Container' kind at name body) e = absurd (grind arith)
silent_continue (Scope here at name body) e = absurd (grind arith)
silent_continue (If test body) e = absurd (grind arith)
silent_continue (ElseIf test body) e = absurd (grind arith)
silent_continue (Else body) e = absurd (grind arith)
silent_continue (Switch value cases) e = absurd (grind arith)
silent_continue (Case value body) e = absurd (grind arith)
silent_continue (Default body) e = absurd (grind arith)
silent_continue Continue e = absurd (grind arith)
silent_continue t e = refl

optional_continue : (t : Tree) → is_expression t ≡ true → have_continue (optional t) ≡ false
optional_continue Omitted e = refl
optional_continue t e = ap (λ b. b || false) (silent_continue t e)

followed_continue : (ts us : Trees) → have_continue (followed ts us) ≡ (have_continue ts || have_continue us)
followed_continue no_trees us = refl
followed_continue (tree t ts) us = ap (λ b. has_continue t || b) (followed_continue ts us) ∙ either_third (has_continue t) (have_continue ts) (have_continue us)

for_continue : (start test step : Tree) (body rest : Trees) → is_steppable start step body ≡ true → have_continue (followed (for_trees start test step body) rest) ≡ have_continue rest
for_continue start test step body rest e =
    let one = first_true (is_expression start) (is_expression step && not (have_far_continue body)) e in
    let loop : Trees = tree (while_tree test (optional step) body) no_trees in
    followed_continue (for_trees start test step body) rest
    ∙ ap (λ b. b || have_continue rest) (followed_continue (optional start) loop ∙ ap (λ b. b || have_continue loop) (optional_continue start one))

spread_continue : (t : Tree) (rest : Trees) → have_continue (spread t rest) ≡ (has_continue t || have_continue rest)
spread_continue (For start test step body) rest = by_fit (is_steppable start step body) refl
  where
    by_fit : (c : Bool) → is_steppable start step body ≡ c → have_continue (if c then followed (for_trees start test step body) rest else tree (For start test step body) rest) ≡ have_continue rest
    by_fit true e = for_continue start test step body rest e
    by_fit false e = refl
spread_continue (Print place format args) rest = by_fit (is_filled format args)
  where
    by_fit : (c : Bool) → have_continue (if c then tree (print_tree place format args) rest else tree (Print place format args) rest) ≡ have_continue rest
    by_fit true = refl
    by_fit false = refl
spread_continue t rest = refl

mutual
  continue_same : (t : Tree) → has_continue (formed t) ≡ has_continue t
  continue_same (Container' kind at name body) = continues_same body
  continue_same (Scope here at name body) = continues_same body
  continue_same (If test body) = continues_same body
  continue_same (ElseIf test body) = continues_same body
  continue_same (Else body) = continues_same body
  continue_same (Switch value cases) = continues_same cases
  continue_same (Case value body) = continues_same body
  continue_same (Default body) = continues_same body
  continue_same t = refl

  pub continues_same : (ts : Trees) → have_continue (formed_all ts) ≡ have_continue ts
  continues_same no_trees = refl
  continues_same (tree t ts) = spread_continue (formed t) (formed_all ts) ∙ either (has_continue (formed t)) (has_continue t) (have_continue (formed_all ts)) (have_continue ts) (continue_same t) (continues_same ts)

-- ---- Continues that leave a term from the braces of a container

silent_far : (t : Tree) → is_expression t ≡ true → has_far_continue t ≡ false
silent_far (Container' kind at name body) e = absurd (grind arith)
silent_far (Scope here at name body) e = absurd (grind arith)
silent_far (If test body) e = absurd (grind arith)
silent_far (ElseIf test body) e = absurd (grind arith)
silent_far (Else body) e = absurd (grind arith)
silent_far (Switch value cases) e = absurd (grind arith)
silent_far (Case value body) e = absurd (grind arith)
silent_far (Default body) e = absurd (grind arith)
silent_far t e = refl

optional_far : (t : Tree) → is_expression t ≡ true → have_far_continue (optional t) ≡ false
optional_far Omitted e = refl
optional_far t e = ap (λ b. b || false) (silent_far t e)

followed_far : (ts us : Trees) → have_far_continue (followed ts us) ≡ (have_far_continue ts || have_far_continue us)
followed_far no_trees us = refl
followed_far (tree t ts) us = ap (λ b. has_far_continue t || b) (followed_far ts us) ∙ either_third (has_far_continue t) (have_far_continue ts) (have_far_continue us)

for_far : (start test step : Tree) (body rest : Trees) → is_steppable start step body ≡ true → have_far_continue (followed (for_trees start test step body) rest) ≡ have_far_continue rest
for_far start test step body rest e =
    let one = first_true (is_expression start) (is_expression step && not (have_far_continue body)) e in
    let loop : Trees = tree (while_tree test (optional step) body) no_trees in
    followed_far (for_trees start test step body) rest
    ∙ ap (λ b. b || have_far_continue rest) (followed_far (optional start) loop ∙ ap (λ b. b || have_far_continue loop) (optional_far start one))

spread_far : (t : Tree) (rest : Trees) → have_far_continue (spread t rest) ≡ (has_far_continue t || have_far_continue rest)
spread_far (For start test step body) rest = by_fit (is_steppable start step body) refl
  where
    by_fit : (c : Bool) → is_steppable start step body ≡ c → have_far_continue (if c then followed (for_trees start test step body) rest else tree (For start test step body) rest) ≡ have_far_continue rest
    by_fit true e = for_far start test step body rest e
    by_fit false e = refl
spread_far (Print place format args) rest = by_fit (is_filled format args)
  where
    by_fit : (c : Bool) → have_far_continue (if c then tree (print_tree place format args) rest else tree (Print place format args) rest) ≡ have_far_continue rest
    by_fit true = refl
    by_fit false = refl
spread_far t rest = refl

mutual
  far_same : (t : Tree) → has_far_continue (formed t) ≡ has_far_continue t
  far_same (Container' kind at name body) = continues_same body
  far_same (Scope here at name body) = continues_same body
  far_same (If test body) = fars_same body
  far_same (ElseIf test body) = fars_same body
  far_same (Else body) = fars_same body
  far_same (Switch value cases) = fars_same cases
  far_same (Case value body) = fars_same body
  far_same (Default body) = fars_same body
  far_same t = refl

  fars_same : (ts : Trees) → have_far_continue (formed_all ts) ≡ have_far_continue ts
  fars_same no_trees = refl
  fars_same (tree t ts) = spread_far (formed t) (formed_all ts) ∙ either (has_far_continue (formed t)) (has_far_continue t) (have_far_continue (formed_all ts)) (have_far_continue ts) (far_same t) (fars_same ts)

-- whether a While stands for a For
pub steppable_same : (start step : Tree) (body : Trees) → is_steppable (formed start) (formed step) (formed_all body) ≡ is_steppable start step body
steppable_same start step body =
    both (is_expression (formed start)) (is_expression start) (is_expression (formed step) && not (have_far_continue (formed_all body))) (is_expression step && not (have_far_continue body)) (expression_same start)
    (both (is_expression (formed step)) (is_expression step) (not (have_far_continue (formed_all body))) (not (have_far_continue body)) (expression_same step) (ap not (fars_same body)))
