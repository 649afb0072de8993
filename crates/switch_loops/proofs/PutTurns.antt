-- The terms of loops of one turn, as they are put before others.
use Rattle.std.proofs.Common.{◌≡◌, ℕ, Bool, true, false, List, [], ◌∷◌, ◌++◌, length, reverse, Some, None, refl, sym, ap, ◌∙◌, arith, append_assoc}
use Rattle.std.proofs.lemmas.List.{append-nil}
use Rattle.iasl_messages.specs.declared.place.Place.{Place}
use Rattle.asl_tree.specs.declared.term.Op.{Op}
use Rattle.asl_tree.specs.declared.term.Control.TheVariants as C
use Rattle.asl_tree.specs.declared.term.Node.{Node}
use Rattle.asl_tree.specs.Tree.{At, Tree, If, ElseIf, Else, Break, Continue, Trees, no_trees, tree}
use Rattle.asl_tree.specs.View.{form, trees_of}
use Rattle.acpi_names.specs.Walked.{node_tree}
use Rattle.asl_lower.specs.Nests.{backwards}
use Rattle.term_places.specs.Places.{term_places, places_of}
use Rattle.term_places.proofs.Places.{one_place, places_cons, places-append}
use Rattle.asl_lower.proofs.Backwards.{pushed}
use Rattle.hidden_locals.specs.Turns.{local, stored, then_trees, loop_of, loop_terms, continue_terms, zero_word, one_word}
use Rattle.switch_loops.specs.Links.{behind, plan_as}
use Rattle.switch_loops.specs.Places.{loop_places, own_places, turn_places, continue_places, chain_places}
use Rattle.switch_loops.proofs.MadeRows.{cons, none, two, pushed_places}

-- ---- one and two nodes

pub one_tree : (at : At) (op : Op) (args body : List Node) (a : Node) → args ≡ a ∷ [] → form at op (trees_of args) (trees_of body) ≡ form at op (tree (node_tree a) no_trees) (trees_of body)
one_tree at op args body a e = ap (λ ns. form at op (trees_of ns) (trees_of body)) e ∙ ap (λ ts. form at op ts (trees_of body)) (cons a [] ∙ ap (tree (node_tree a)) none)

pair : (b0 b1 b2 : List Node) (a b : Node) → b0 ≡ [] → b1 ≡ b0 ++ a ∷ [] → b2 ≡ b1 ++ b ∷ [] → b2 ≡ a ∷ b ∷ []
pair b0 b1 b2 a b e0 e1 e2 = e2 ∙ ap (λ ns. ns ++ b ∷ []) (e1 ∙ ap (λ ns. ns ++ a ∷ []) e0)

single : (b0 b1 : List Node) (a : Node) → b0 ≡ [] → b1 ≡ b0 ++ a ∷ [] → b1 ≡ a ∷ []
single b0 b1 a e0 e1 = e1 ∙ ap (λ ns. ns ++ a ∷ []) e0

pub pair_trees : (b0 b1 b2 : List Node) (a b : Node) (s t : Tree) → b0 ≡ [] → b1 ≡ b0 ++ a ∷ [] → b2 ≡ b1 ++ b ∷ [] → node_tree a ≡ s → node_tree b ≡ t → trees_of b2 ≡ tree s (tree t no_trees)
pair_trees b0 b1 b2 a b s t e0 e1 e2 ea eb =
    ap trees_of (pair b0 b1 b2 a b e0 e1 e2) ∙ two a b ∙ ap (λ x. tree x (tree (node_tree b) no_trees)) ea ∙ ap (λ x. tree s (tree x no_trees)) eb

pub single_trees : (b0 b1 : List Node) (a : Node) (s : Tree) → b0 ≡ [] → b1 ≡ b0 ++ a ∷ [] → node_tree a ≡ s → trees_of b1 ≡ tree s no_trees
single_trees b0 b1 a s e0 e1 ea = ap trees_of (single b0 b1 a e0 e1) ∙ cons a [] ∙ ap (tree (node_tree a)) none ∙ ap (λ x. tree x no_trees) ea

pub pair_places : (b0 b1 b2 : List Node) (a b : Node) (ps qs : List Place) → b0 ≡ [] → b1 ≡ b0 ++ a ∷ [] → b2 ≡ b1 ++ b ∷ [] → term_places a ≡ ps → term_places b ≡ qs → places_of b2 ≡ ps ++ qs
pair_places b0 b1 b2 a b ps qs e0 e1 e2 ea eb =
    ap places_of (pair b0 b1 b2 a b e0 e1 e2) ∙ places_cons a (b ∷ []) ∙ ap (λ x. term_places a ++ x) (one_place b ∙ eb) ∙ ap (λ x. x ++ qs) ea

pub single_places : (b0 b1 : List Node) (a : Node) (ps : List Place) → b0 ≡ [] → b1 ≡ b0 ++ a ∷ [] → term_places a ≡ ps → places_of b1 ≡ ps
single_places b0 b1 a ps e0 e1 ea = ap places_of (single b0 b1 a e0 e1) ∙ one_place a ∙ ea

pub when_is : (w test l : Tree) (body ts : Trees) → w ≡ If test body → test ≡ l → body ≡ ts → w ≡ If l ts
when_is w test l body ts ew et eb = ew ∙ ap (λ t. If t body) et ∙ ap (If l) eb

-- ---- terms that are put

put_places : (old new : List Node) (a : Node) (ps rest : List Place) → new ≡ old ++ a ∷ [] → term_places a ≡ ps → places_of (reverse old) ≡ rest → places_of (reverse new) ≡ ps ++ rest
put_places old new a ps rest e ea er = pushed_places old new a e ∙ ap (λ x. x ++ places_of (reverse old)) ea ∙ ap (λ x. ps ++ x) er

put_trees : (old new : List Node) (a : Node) (t : Tree) (rest : Trees) → new ≡ old ++ a ∷ [] → node_tree a ≡ t → backwards old ≡ rest → backwards new ≡ tree t rest
put_trees old new a t rest e ea er = pushed old new a e ∙ ap (λ x. tree x (backwards old)) ea ∙ ap (tree t) er

pub continue_put : (flag : ℕ) (inside : Bool) (old new : List Node) (a : Node) → inside ≡ false → new ≡ old ++ a ∷ [] → node_tree a ≡ Continue → backwards new ≡ continue_terms (plan_as flag []) inside (backwards old)
continue_put flag true old new a i e ea = absurd cc
continue_put flag false old new a i e ea = put_trees old new a Continue (backwards old) e ea refl

pub continue_placed : (inside : Bool) (place : Place) (old new : List Node) (a : Node) → inside ≡ false → new ≡ old ++ a ∷ [] → term_places a ≡ place ∷ [] → places_of (reverse new) ≡ continue_places inside place ++ places_of (reverse old)
continue_placed true place old new a i e ea = absurd cc
continue_placed false place old new a i e ea = put_places old new a (place ∷ []) (places_of (reverse old)) e ea refl

pub leave_put : (flag : ℕ) (inside : Bool) (old one new : List Node) (a b : Node) → inside ≡ true → one ≡ old ++ a ∷ [] → new ≡ one ++ b ∷ [] → node_tree a ≡ Break → node_tree b ≡ stored one_word (local flag)
    → backwards new ≡ continue_terms (plan_as flag []) inside (backwards old)
leave_put flag false old one new a b i e f ea eb = absurd cc
leave_put flag true old one new a b i e f ea eb = put_trees one new b (stored one_word (local flag)) (tree Break (backwards old)) f eb (put_trees old one a Break (backwards old) e ea refl)

pub leave_placed : (inside : Bool) (place : Place) (old one new : List Node) (a b : Node) → inside ≡ true → one ≡ old ++ a ∷ [] → new ≡ one ++ b ∷ [] → term_places a ≡ place ∷ [] → term_places b ≡ place ∷ []
    → places_of (reverse new) ≡ continue_places inside place ++ places_of (reverse old)
leave_placed false place old one new a b i e f ea eb = absurd cc
leave_placed true place old one new a b i e f ea eb = put_places one new b (place ∷ []) (place ∷ places_of (reverse old)) f eb (put_places old one a (place ∷ []) (places_of (reverse old)) e ea refl)

-- ---- loops

pub plain_put : (flag : ℕ) (crossed inside : Bool) (old new : List Node) (t : Node) → crossed ≡ false → new ≡ old ++ t ∷ [] → backwards new ≡ loop_terms (plan_as flag []) crossed inside (node_tree t) (backwards old)
plain_put flag true inside old new t c e = absurd cc
plain_put flag false inside old new t c e = pushed old new t e

pub plain_placed : (crossed inside : Bool) (place : Place) (old new : List Node) (t : Node) → crossed ≡ false → new ≡ old ++ t ∷ [] → places_of (reverse new) ≡ loop_places crossed inside place (term_places t) ++ places_of (reverse old)
plain_placed true inside place old new t c e = absurd cc
plain_placed false inside place old new t c e = pushed_places old new t e

pub outer_put : (flag : ℕ) (crossed inside : Bool) (old one two new : List Node) (w t s : Node) → crossed ≡ true → inside ≡ false → one ≡ old ++ w ∷ [] → two ≡ one ++ t ∷ [] → new ≡ two ++ s ∷ []
    → node_tree w ≡ If (local flag) (tree (stored zero_word (local flag)) (tree Continue no_trees)) → node_tree s ≡ stored zero_word (local flag) → backwards new ≡ loop_terms (plan_as flag []) crossed inside (node_tree t) (backwards old)
outer_put flag false inside old one two new w t s c i e f g ew es = absurd cc
outer_put flag true true old one two new w t s c i e f g ew es = absurd cc
outer_put flag true false old one two new w t s c i e f g ew es =
    put_trees two new s (stored zero_word (local flag)) (tree (node_tree t) (tree (If (local flag) (tree (stored zero_word (local flag)) (tree Continue no_trees))) (backwards old))) g es
    (put_trees one two t (node_tree t) (tree (If (local flag) (tree (stored zero_word (local flag)) (tree Continue no_trees))) (backwards old)) f refl
    (put_trees old one w (If (local flag) (tree (stored zero_word (local flag)) (tree Continue no_trees))) (backwards old) e ew refl))

pub outer_placed : (crossed inside : Bool) (place : Place) (old one two new : List Node) (w t s : Node) → crossed ≡ true → inside ≡ false → one ≡ old ++ w ∷ [] → two ≡ one ++ t ∷ [] → new ≡ two ++ s ∷ []
    → term_places w ≡ place ∷ place ∷ place ∷ [] → term_places s ≡ place ∷ [] → places_of (reverse new) ≡ loop_places crossed inside place (term_places t) ++ places_of (reverse old)
outer_placed false inside place old one two new w t s c i e f g ew es = absurd cc
outer_placed true true place old one two new w t s c i e f g ew es = absurd cc
outer_placed true false place old one two new w t s c i e f g ew es =
    put_places two new s (place ∷ []) (term_places t ++ (place ∷ place ∷ place ∷ places_of (reverse old))) g es
    (put_places one two t (term_places t) (place ∷ place ∷ place ∷ places_of (reverse old)) f refl (put_places old one w (place ∷ place ∷ place ∷ []) (places_of (reverse old)) e ew refl))
    ∙ ap (λ ps. place ∷ ps) (sym (append_assoc (term_places t) (place ∷ place ∷ place ∷ []) (places_of (reverse old))))

pub inner_put : (flag : ℕ) (crossed inside : Bool) (old one new : List Node) (w t : Node) → crossed ≡ true → inside ≡ true → one ≡ old ++ w ∷ [] → new ≡ one ++ t ∷ [] → node_tree w ≡ If (local flag) (tree Break no_trees)
    → backwards new ≡ loop_terms (plan_as flag []) crossed inside (node_tree t) (backwards old)
inner_put flag false inside old one new w t c i e f ew = absurd cc
inner_put flag true false old one new w t c i e f ew = absurd cc
inner_put flag true true old one new w t c i e f ew =
    put_trees one new t (node_tree t) (tree (If (local flag) (tree Break no_trees)) (backwards old)) f refl (put_trees old one w (If (local flag) (tree Break no_trees)) (backwards old) e ew refl)

pub inner_placed : (crossed inside : Bool) (place : Place) (old one new : List Node) (w t : Node) → crossed ≡ true → inside ≡ true → one ≡ old ++ w ∷ [] → new ≡ one ++ t ∷ [] → term_places w ≡ place ∷ place ∷ []
    → places_of (reverse new) ≡ loop_places crossed inside place (term_places t) ++ places_of (reverse old)
inner_placed false inside place old one new w t c i e f ew = absurd cc
inner_placed true false place old one new w t c i e f ew = absurd cc
inner_placed true true place old one new w t c i e f ew =
    put_places one new t (term_places t) (place ∷ place ∷ places_of (reverse old)) f refl (put_places old one w (place ∷ place ∷ []) (places_of (reverse old)) e ew refl)
    ∙ sym (append_assoc (term_places t) (place ∷ place ∷ []) (places_of (reverse old)))

-- ---- what a turn is made of

then_last : (nodes : List Node) (b : Node) → trees_of (nodes ++ b ∷ []) ≡ then_trees (trees_of nodes) (tree (node_tree b) no_trees)
unfolding trees_of
then_last [] b = refl
then_last (n ∷ nodes) b = ap (tree (node_tree n)) (then_last nodes b)

pub turn_tree : (at : At) (args chain put body : List Node) (word first last : Node) (value : Tree) (i : ℕ) (c : Trees) → args ≡ word ∷ [] → put ≡ first ∷ chain → body ≡ put ++ last ∷ [] → node_tree word ≡ one_word → node_tree last ≡ Break
    → trees_of chain ≡ c → node_tree first ≡ stored value (local i) → form at (Op.Control C.While) (trees_of args) (trees_of body) ≡ loop_of value (local i) c
turn_tree at args chain put body word first last value i c ea ep eb ew el ec es =
    one_tree at (Op.Control C.While) args body word ea ∙ ap (λ t. form at (Op.Control C.While) (tree t no_trees) (trees_of body)) ew
    ∙ ap (form at (Op.Control C.While) (tree one_word no_trees)) (ap trees_of (eb ∙ ap (λ ns. ns ++ last ∷ []) ep) ∙ cons first (chain ++ last ∷ []) ∙ ap (λ t. tree t (trees_of (chain ++ last ∷ []))) es
    ∙ ap (tree (stored value (local i))) (then_last chain last ∙ ap (λ ts. then_trees ts (tree (node_tree last) no_trees)) ec ∙ ap (λ t. then_trees c (tree t no_trees)) el))

pub turn_placed : (place : Place) (chain put body : List Node) (first last : Node) (ps : List Place) → put ≡ first ∷ chain → body ≡ put ++ last ∷ [] → term_places first ≡ place ∷ [] → term_places last ≡ place ∷ []
    → places_of chain ≡ ps → own_places (Op.Control C.While) place (places_of body) ≡ turn_places place ps
turn_placed place chain put body first last ps ep eb ef el ec =
    ap (λ qs. place ∷ qs) (ap places_of (eb ∙ ap (λ ns. ns ++ last ∷ []) ep) ∙ places_cons first (chain ++ last ∷ []) ∙ ap (λ qs. qs ++ places_of (chain ++ last ∷ [])) ef
    ∙ ap (λ qs. place ∷ qs) (places-append chain (last ∷ []) ∙ ap (λ qs. qs ++ places_of (last ∷ [])) ec ∙ ap (λ qs. ps ++ qs) (one_place last ∙ el)))

-- ---- the tests of Cases

pub else_tree : (at : At) (args body : List Node) → args ≡ [] → form at (Op.Control C.Else) (trees_of args) (trees_of body) ≡ Else (trees_of body)
else_tree at args body e = ap (λ ns. form at (Op.Control C.Else) (trees_of ns) (trees_of body)) e ∙ ap (λ ts. form at (Op.Control C.Else) ts (trees_of body)) none

then_none : (ts : Trees) → then_trees ts no_trees ≡ ts
then_none no_trees = refl
then_none (tree t ts) = ap (tree t) (then_none ts)

then_one : (nodes : List Node) (a : Node) (rest : Trees) → then_trees (trees_of (nodes ++ a ∷ [])) rest ≡ then_trees (trees_of nodes) (tree (node_tree a) rest)
unfolding trees_of
then_one [] a rest = refl
then_one (n ∷ nodes) a rest = ap (tree (node_tree n)) (then_one nodes a rest)

pub first_test : (old new : List Node) (a : Node) (test : Tree) (body branches : Trees) → length old ≡ 0 → new ≡ old ++ a ∷ [] → node_tree a ≡ If test body → behind (trees_of new) branches ≡ behind (trees_of old) (tree (ElseIf test body) branches)
unfolding trees_of
first_test [] new a test body branches n e ea = ap (λ ns. behind (trees_of ns) branches) e ∙ ap (λ t. tree t branches) ea
first_test (o ∷ old) new a test body branches n e ea = absurd (omega (arith, n))

pub next_test : (old new : List Node) (a : Node) (test : Tree) (body branches : Trees) → (length old ≡ 0 → ⊥) → new ≡ old ++ a ∷ [] → node_tree a ≡ ElseIf test body → behind (trees_of new) branches ≡ behind (trees_of old) (tree (ElseIf test body) branches)
unfolding trees_of
next_test [] new a test body branches never e ea = absurd (never refl)
next_test (o ∷ old) new a test body branches never e ea = ap (λ ns. behind (trees_of ns) branches) e ∙ ap (tree (node_tree o)) (then_one old a branches) ∙ ap (λ t. tree (node_tree o) (then_trees (trees_of old) (tree t branches))) ea

pub test_placed : (old new : List Node) (a : Node) (ps : List Place) → new ≡ old ++ a ∷ [] → term_places a ≡ ps → places_of new ≡ places_of old ++ ps
test_placed old new a ps e ea = ap places_of e ∙ places-append old (a ∷ []) ∙ ap (λ qs. places_of old ++ qs) (one_place a ∙ ea)

-- ---- a Default behind them

pub no_default : (ts : Trees) → ts ≡ behind ts no_trees
no_default no_trees = refl
no_default (tree t ts) = ap (tree t) (sym (then_none ts))

pub no_default_places : (ps : List Place) → ps ≡ chain_places ps None
no_default_places [] = refl
no_default_places (p ∷ ps) = ap (λ qs. p ∷ qs) (sym (append-nil ps))

pub lone_default : (tests : List Node) (body : Trees) → length tests ≡ 0 → body ≡ behind (trees_of tests) (tree (Else body) no_trees)
unfolding trees_of
lone_default [] body n = refl
lone_default (o ∷ tests) body n = absurd (omega (arith, n))

pub lone_default_places : (tests : List Node) (place : Place) (ps : List Place) → length tests ≡ 0 → ps ≡ chain_places (places_of tests) (Some (place, ps))
unfolding places_of
lone_default_places [] place ps n = refl
lone_default_places (o ∷ tests) place ps n = absurd (omega (arith, n))

pub last_default : (tests new : List Node) (a : Node) (body : Trees) → (length tests ≡ 0 → ⊥) → new ≡ tests ++ a ∷ [] → node_tree a ≡ Else body → trees_of new ≡ behind (trees_of tests) (tree (Else body) no_trees)
unfolding trees_of
last_default [] new a body never e ea = absurd (never refl)
last_default (o ∷ tests) new a body never e ea = ap trees_of e ∙ ap (tree (node_tree o)) (then_last tests a) ∙ ap (λ t. tree (node_tree o) (then_trees (trees_of tests) (tree t no_trees))) ea

pub last_default_places : (tests new : List Node) (a : Node) (place : Place) (ps : List Place) → (length tests ≡ 0 → ⊥) → new ≡ tests ++ a ∷ [] → term_places a ≡ place ∷ ps → places_of new ≡ chain_places (places_of tests) (Some (place, ps))
unfolding places_of
last_default_places [] new a place ps never e ea = absurd (never refl)
last_default_places (o ∷ tests) new a place ps never e ea = test_placed (o ∷ tests) new a (place ∷ ps) e ea
