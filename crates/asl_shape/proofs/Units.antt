-- Blocks and sources.
use Rattle.std.proofs.Common.{Result, Ok, Err, IfOk, IfErr, ◌≡◌, ℕ, ◌+◌, ◌<◌, ◌≤◌, length, get_or, take, drop, List, [], ◌∷◌, ◌++◌, append_assoc, refl, ap, ◌∙◌, sym, subst, Option, Some, None, Bool, true, false, if◌then◌else◌}
use Rattle.std.proofs.lemmas.List.{append-nil, take_more, take_all, drop_more, drop_all}
use Rattle.iasl_messages.specs.declared.place.Place.{Place}
use Rattle.iasl_messages.specs.declared.message.Stage.{Stage}
use Rattle.asl_syntax.specs.declared.raw.Infix.{Infix}
use Rattle.asl_syntax.specs.declared.raw.Raw.{Raw}
use Rattle.asl_syntax.specs.declared.raw.Raw.TheVariants as raw
use Rattle.asl_tree.specs.declared.program.Block.{Block}
use Rattle.asl_tree.specs.declared.term.Node.{Node}
use Rattle.asl_syntax.specs.Written as piece
use Rattle.asl_syntax.specs.Written.{Written, none, more, written, writtens, written_in}
use Rattle.acpi_values.specs.Revisions.{width_of}
use Rattle.acpi_values.specs.declared.width.Width.TheVariants.{W64}
use Rattle.iasl_messages.specs.declared.message.Message.{Message}
use Rattle.asl_shape.specs.Around.{outside}
use Rattle.term_plans.specs.Plans.{Plans, plan_of, plans_of, plan_at, text_of, join}
use Rattle.asl_words.specs.Operators.{block_parameters}
use Rattle.asl_terms.specs.Terms.{Shaped, inside_of, is_given}
use Rattle.term_plans.specs.Places.{fault_at}
use Rattle.asl_shape.specs.Shapes.{takes, terms}
use Rattle.asl_terms.specs.AtRaw.{inside_at, is_some, place_at}
use Rattle.asl_shape.specs.AtRaw.{takes_at, terms_at, arguments_at, Refuses}
use Rattle.asl_shape.specs.Forms.{revision_in, start, is_block_word, is_block, block_fault, errors_inside, block_errors, no_block, errors_of, block_place, args_of, terms_of, IsBlock, errors_at, IsBlockOf, alone, is_block_at, errors_in_block, errors_in_blocks, stray_errors, source_errors, AreBlocksOf, AreRight, AddsBlock, args_in, terms_in, errors_in, block_errors_at}
use Rattle.term_plans.proofs.Lists.{at_some, at_none}
use Rattle.asl_terms.proofs.Bracketed.{given_some, inside_written}
use Rattle.asl_terms.proofs.Joins.{from_none}
use Rattle.asl_shape.proofs.Shapes.{arguments_are, none_left, all_made}
use Rattle.asl_syntax.specs.Views.{written_number, written_text, written_item, written_apply, written_list, written_comma, written_semicolon, written_empty}

pub text_some : (nodes : List Node) (i : ℕ) (d : Node) → i < length nodes → d ≡ get_or nodes i d → text_of (plan_of d.term) ≡ text_of (plan_at (plans_of nodes) i)
text_some nodes i d lt e = ap (λ (n : Node). text_of (plan_of n.term)) e ∙ ap text_of (sym (at_some nodes i d lt))

pub text_none : (nodes : List Node) (i : ℕ) → length nodes ≤ i → text_of (plan_at (plans_of nodes) i) ≡ []
text_none nodes i le = ap text_of (at_none nodes i le)

pub ruleset text_rules = (text_some, text_none)

pub inside_made : (place : Place) (args : List Raw) (nodes nodes' : List Node) → nodes ≡ [] → plans_of nodes' ≡ join (plans_of nodes) (args_in place args).made → plans_of nodes' ≡ (args_in place args).made
inside_made place args nodes nodes' e made = made ∙ ap (λ ns. join (plans_of ns) (args_in place args).made) e ∙ from_none (args_in place args).made

-- what is told of the arguments, and then of the terms
pub inside_told : (place : Place) (args body : List Raw) (nodes nodes' : List Node) (old middle all : List Message) → nodes ≡ [] → plans_of nodes' ≡ join (plans_of nodes) (args_in place args).made → middle ≡ old ++ (args_in place args).faults
    → all ≡ middle ++ (terms_in (plans_of nodes') body).faults → all ≡ old ++ errors_in place args body
unfolding errors_in
inside_told place args body nodes nodes' old middle all e made told behind =
    let is : plans_of nodes' ≡ (args_in place args).made = inside_made place args nodes nodes' e made in
    behind ∙ ap (λ ps. middle ++ (terms_in ps body).faults) is ∙ ap (λ ms. ms ++ (terms_in (args_in place args).made body).faults) told ∙ append_assoc old (args_in place args).faults (terms_in (args_in place args).made body).faults

pub inside_terms : (place : Place) (args body : List Raw) (nodes nodes' : List Node) (old new : Plans) → nodes ≡ [] → plans_of nodes' ≡ join (plans_of nodes) (args_in place args).made
    → new ≡ join old (terms_in (plans_of nodes') body).made → new ≡ join old (terms_in (args_in place args).made body).made
inside_terms place args body nodes nodes' old new e made behind =
    behind ∙ ap (λ ps. join old (terms_in ps body).made) (inside_made place args nodes nodes' e made)

pub ruleset inside_rules = (inside_told, inside_made, inside_terms)

pub ruleset block_rules = (none_left, all_made)

pub fault_some : (place : Place) (args body : Option (List Raw)) (number : ℕ) → block_fault (takes_at block_parameters (inside_at args)) (is_some body) ≡ Some number → block_errors_at place args body ≡ fault_at number place ∷ []
unfolding block_errors_at
fault_some place args body number e = ap (λ o. errors_inside o place (errors_in place (inside_at args) (inside_at body))) e

pub fault_none : (place : Place) (args body : Option (List Raw)) → block_fault (takes_at block_parameters (inside_at args)) (is_some body) ≡ None → block_errors_at place args body ≡ errors_in place (inside_at args) (inside_at body)
unfolding block_errors_at
fault_none place args body e = ap (λ o. errors_inside o place (errors_in place (inside_at args) (inside_at body))) e

pub ruleset stated_rules = (fault_some, fault_none)

block_errors_are : (place : Place) (args body : Option (List Raw)) → block_errors place (written_in args) (written_in body) ≡ block_errors_at place args body
unfolding block_errors_at errors_in takes_at terms_at arguments_at
block_errors_are place args body =
    let around = λ (x : Shaped Plans). outside (width_of (revision_in x.made)) in
    let written_args = arguments_at block_parameters place (outside W64) args in
    ap (λ ws. errors_inside (block_fault (takes block_parameters ws) (is_given (written_in body))) place (written_args.faults ++ (terms (around written_args) None (inside_of (written_in body))).faults)) (inside_written args)
    ∙ ap (λ b. errors_inside (block_fault (takes block_parameters (writtens (inside_at args))) b) place (written_args.faults ++ (terms (around written_args) None (inside_of (written_in body))).faults)) (given_some body)
    ∙ ap (λ ws. errors_inside (block_fault (takes block_parameters (writtens (inside_at args))) (is_some body)) place (written_args.faults ++ (terms (around written_args) None ws).faults)) (inside_written body)
    ∙ ap (λ (x : Shaped Plans). errors_inside (block_fault (takes block_parameters (writtens (inside_at args))) (is_some body)) place (x.faults ++ (terms_at (around x) None (inside_at body)).faults)) (arguments_are block_parameters place (outside W64) args)

-- ---- an item that stands alone

pub is_block_item : (place : Place) (word : List ℕ) (args body : Option (List Raw)) → is_block_at (raw.Item place word args body) ≡ is_block_word word
unfolding is_block_at
is_block_item place word args body = ap is_block (written_item place word args body)

pub is_block_number : (place : Place) (n : ℕ) → is_block_at (raw.Number place n) ≡ false
unfolding is_block_at
is_block_number place n = ap is_block (written_number place n)

pub is_block_text : (place : Place) (bytes : List ℕ) → is_block_at (raw.Text place bytes) ≡ false
unfolding is_block_at
is_block_text place bytes = ap is_block (written_text place bytes)

pub is_block_apply : (place : Place) (op : Infix) (args : List Raw) → is_block_at (raw.Apply place op args) ≡ false
unfolding is_block_at
is_block_apply place op args = ap is_block (written_apply place op args)

pub is_block_list : (place : Place) (items : List Raw) → is_block_at (raw.List place items) ≡ false
unfolding is_block_at
is_block_list place items = ap is_block (written_list place items)

pub is_block_comma : is_block_at raw.Comma ≡ false
unfolding is_block_at
is_block_comma = ap is_block written_comma

pub is_block_semicolon : is_block_at raw.Semicolon ≡ false
unfolding is_block_at
is_block_semicolon = ap is_block written_semicolon

pub is_block_empty : is_block_at raw.Empty ≡ false
unfolding is_block_at
is_block_empty = ap is_block written_empty

pub ruleset block_items = (is_block_item, is_block_number, is_block_text, is_block_apply, is_block_list, is_block_comma, is_block_semicolon, is_block_empty)

-- the errors of a block are those of its arguments and its braces
item_alone : (place : Place) (word : List ℕ) (args body : Option (List Raw)) → is_block_word word ≡ true → errors_at (alone (raw.Item place word args body)) ≡ block_errors_at place args body
unfolding errors_at writtens
item_alone place word args body e =
    ap (λ w. errors_of (more w none)) (written_item place word args body)
    ∙ ap (λ b. if b then block_errors place (written_in args) (written_in body) else no_block place) e
    ∙ block_errors_are place args body

errors_alone : (r : Raw) (place : Place) (word : List ℕ) (args body : Option (List Raw)) → r ≡ raw.Item place word args body → is_block_at r ≡ true → errors_at (alone r) ≡ block_errors_at place args body
errors_alone r place word args body e b = ap (λ r. errors_at (alone r)) e ∙ item_alone place word args body (sym (is_block_item place word args body) ∙ sym (ap is_block_at e) ∙ b)

-- what an item alone is
block_is : (place : Place) (word : List ℕ) (args body : Option (List Raw)) (block : Block) → IsBlock place (args_in place (inside_at args)).made (terms_in (args_in place (inside_at args)).made (inside_at body)).made block
    → IsBlockOf (alone (raw.Item place word args body)) block
unfolding IsBlockOf writtens terms_at arguments_at
block_is place word args body block h =
    subst (λ w. IsBlock (block_place (more w none)) (args_of (more w none)) (terms_of (more w none)) block) (sym (written_item place word args body))
    (subst (λ (x : Shaped Plans). IsBlock place x.made (terms (outside (width_of (revision_in x.made))) None (inside_of (written_in body))).made block) (sym (arguments_are block_parameters place (outside W64) args))
    (subst (λ ws. IsBlock place (args_in place (inside_at args)).made (terms (outside (width_of (revision_in (args_in place (inside_at args)).made))) None ws).made block) (sym (inside_written body)) h))

pub alone_formed : (r : Raw) (place : Place) (word : List ℕ) (args body : Option (List Raw)) (result : Result Block Stage) → r ≡ raw.Item place word args body → is_block_at r ≡ true
    → IfOk result (λ block. (block_errors_at place args body ≡ []) × IsBlock place (args_in place (inside_at args)).made (terms_in (args_in place (inside_at args)).made (inside_at body)).made block)
    → IfOk result (λ block. (errors_at (alone r) ≡ []) × IsBlockOf (alone r) block)
alone_formed r place word args body (Ok block) e b h = (errors_alone r place word args body e b ∙ h.0, subst (λ r. IsBlockOf (alone r) block) (sym e) (block_is place word args body block h.1))
alone_formed r place word args body (Err stage) e b h = h

pub alone_refused : (r : Raw) (place : Place) (word : List ℕ) (args body : Option (List Raw)) (result : Result Block Stage) → r ≡ raw.Item place word args body → is_block_at r ≡ true
    → IfErr result (λ stage. Refuses stage (block_errors_at place args body)) → IfErr result (λ stage. Refuses stage (errors_at (alone r)))
alone_refused r place word args body (Ok block) e b h = h
alone_refused r place word args body (Err stage) e b h = subst (λ es. Refuses stage es) (sym (errors_alone r place word args body e b)) h

-- ---- the items of a source

-- the errors of an item that is no block, and of one that is
pub no_errors_in : (r : Raw) → is_block_at r ≡ false → errors_in_block r ≡ []
no_errors_in r e = ap (λ b. if b then errors_at (alone r) else []) e

pub errors_in_one : (r : Raw) → is_block_at r ≡ true → errors_in_block r ≡ errors_at (alone r)
errors_in_one r e = ap (λ b. if b then errors_at (alone r) else []) e

-- one item more
errors_more : (raws : List Raw) (r : Raw) → errors_in_blocks (raws ++ r ∷ []) ≡ errors_in_blocks raws ++ errors_in_block r
errors_more [] r = append-nil (errors_in_block r)
errors_more (x ∷ xs) r = ap (λ es. errors_in_block x ++ es) (errors_more xs r) ∙ sym (append_assoc (errors_in_block x) (errors_in_blocks xs) (errors_in_block r))

strays_more : (raws : List Raw) (r : Raw) → stray_errors (raws ++ r ∷ []) ≡ [] → (stray_errors raws ≡ []) × (is_block_at r ≡ true)
strays_more [] r e = (refl, by (is_block_at r) e)
  where
    by : (b : Bool) → (if b then [] else no_block (place_at start r)) ≡ [] → b ≡ true
    by true e = refl
    by false e = absurd cc
strays_more (x ∷ xs) r e = by (is_block_at x) (strays_more xs r) e
  where
    by : (b : Bool) → (stray_errors (xs ++ r ∷ []) ≡ [] → (stray_errors xs ≡ []) × (is_block_at r ≡ true)) → (if b then stray_errors (xs ++ r ∷ []) else no_block (place_at start x)) ≡ []
        → ((if b then stray_errors xs else no_block (place_at start x)) ≡ []) × (is_block_at r ≡ true)
    by true go e = go e
    by false go e = absurd cc

blocks_more : (raws : List Raw) (blocks : List Block) (r : Raw) (block : Block) → AreBlocksOf raws blocks → IsBlockOf (alone r) block → AreBlocksOf (raws ++ r ∷ []) (blocks ++ block ∷ [])
blocks_more [] [] r block h k = (k, tt)
blocks_more [] (b ∷ bs) r block h k = absurd h
blocks_more (x ∷ xs) [] r block h k = absurd h
blocks_more (x ∷ xs) (b ∷ bs) r block h k = (h.0, blocks_more xs bs r block h.1 k)

none_of_both : (xs ys : List Message) → xs ++ ys ≡ [] → (xs ≡ []) × (ys ≡ [])
none_of_both [] ys e = (refl, e)
none_of_both (x ∷ xs) ys e = absurd cc

-- the first so many items are told of, and they are these blocks if nothing is told
pub record AreRead (raws : List Raw) (i : ℕ) (initial now : List Message) (blocks : List Block) : Type 0 where
  pub told : now ≡ initial ++ errors_in_blocks (take i raws)
  pub made : errors_in_blocks (take i raws) ≡ [] → stray_errors (take i raws) ≡ [] → AreBlocksOf (take i raws) blocks

pub none_read : (raws : List Raw) (initial : List Message) (blocks : List Block) → blocks ≡ [] → AreRead raws 0 initial initial blocks
none_read raws initial blocks e = record { told = sym (append-nil initial); made = λ clean strays. subst (AreBlocksOf []) (sym e) tt }

pub one_read : (raws : List Raw) (i : ℕ) (r : Raw) (initial now next : List Message) (blocks longer : List Block) → i < length raws → r ≡ get_or raws i r → next ≡ now ++ errors_in_block r
    → (is_block_at r ≡ true → errors_in_block r ≡ [] → AddsBlock r blocks longer) → AreRead raws i initial now blocks → AreRead raws (i + 1) initial next longer
one_read raws i r initial now next blocks longer lt is e adds h =
    let before = take i raws in
    let one : take (i + 1) raws ≡ before ++ r ∷ [] = take_more raws i r lt ∙ ap (λ x. before ++ x ∷ []) (sym is) in
    record {
      told = e ∙ ap (λ ms. ms ++ errors_in_block r) h.told ∙ append_assoc initial (errors_in_blocks before) (errors_in_block r)
          ∙ ap (λ es. initial ++ es) (sym (errors_more before r) ∙ sym (ap errors_in_blocks one));
      made = λ clean strays.
          let some = none_of_both (errors_in_blocks before) (errors_in_block r) (sym (errors_more before r) ∙ sym (ap errors_in_blocks one) ∙ clean) in
          let block = strays_more before r (sym (ap stray_errors one) ∙ strays) in
          let added = adds block.1 some.1 in
          subst (λ xs. AreBlocksOf xs longer) (sym one)
          (subst (AreBlocksOf (before ++ r ∷ [])) (sym added.2) (blocks_more before blocks r added.0 (h.made some.0 block.0) added.1));
    }

pub all_read : (raws : List Raw) (i : ℕ) (initial now : List Message) (blocks : List Block) → length raws ≤ i → AreRead raws i initial now blocks
    → (now ≡ initial ++ errors_in_blocks raws) × (errors_in_blocks raws ≡ [] → stray_errors raws ≡ [] → AreBlocksOf raws blocks)
all_read raws i initial now blocks le h =
    subst (λ xs. (now ≡ initial ++ errors_in_blocks xs) × (errors_in_blocks xs ≡ [] → stray_errors xs ≡ [] → AreBlocksOf xs blocks)) (take_all i raws le) (h.told, h.made)

-- no stray item is among the first so many
pub stray_passed : (raws : List Raw) (i : ℕ) (r : Raw) → i < length raws → r ≡ get_or raws i r → is_block_at r ≡ true → stray_errors (drop i raws) ≡ stray_errors raws → stray_errors (drop (i + 1) raws) ≡ stray_errors raws
stray_passed raws i r lt is e h =
    let rest = drop (i + 1) raws in
    sym (ap stray_errors (drop_more raws i r lt ∙ ap (λ x. x ∷ rest) (sym is)) ∙ ap (λ b. if b then stray_errors rest else no_block (place_at start r)) e) ∙ h

pub stray_found : (raws : List Raw) (i : ℕ) (r : Raw) → i < length raws → r ≡ get_or raws i r → is_block_at r ≡ false → stray_errors (drop i raws) ≡ stray_errors raws → no_block (place_at start r) ≡ stray_errors raws
stray_found raws i r lt is e h =
    let rest = drop (i + 1) raws in
    sym (ap stray_errors (drop_more raws i r lt ∙ ap (λ x. x ∷ rest) (sym is)) ∙ ap (λ b. if b then stray_errors rest else no_block (place_at start r)) e) ∙ h

pub no_stray : (raws : List Raw) (i : ℕ) (now : List Message) → length raws ≤ i → stray_errors (drop i raws) ≡ stray_errors raws → now ≡ now ++ stray_errors raws
no_stray raws i now le h = sym (ap (λ es. now ++ es) (sym h ∙ ap stray_errors (drop_all i raws le)) ∙ append-nil now)

-- ---- a source

-- a source with an item is told of its blocks, and then of the first item that is none
some_source : (raws : List Raw) → (length raws ≡ 0 → ⊥) → source_errors raws ≡ errors_in_blocks raws ++ stray_errors raws
some_source [] h = absurd (h refl)
some_source (r ∷ rs) h = refl

pub source_told : (raws : List Raw) (old middle all : List Message) → (length raws ≡ 0 → ⊥) → old ≡ [] → middle ≡ old ++ errors_in_blocks raws → all ≡ middle ++ stray_errors raws → all ≡ source_errors raws
source_told raws old middle all h clean first behind =
    behind ∙ ap (λ ms. ms ++ stray_errors raws) (first ∙ ap (λ ms. ms ++ errors_in_blocks raws) clean) ∙ sym (some_source raws h)

pub source_made : (raws : List Raw) (blocks : List Block) → (length raws ≡ 0 → ⊥) → (errors_in_blocks raws ≡ [] → stray_errors raws ≡ [] → AreBlocksOf raws blocks) → source_errors raws ≡ [] → AreBlocksOf raws blocks
source_made raws blocks h made e =
    let clean = none_of_both (errors_in_blocks raws) (stray_errors raws) (sym (some_source raws h) ∙ e) in
    made clean.0 clean.1

-- ---- what a source without errors is

-- each item is a block without errors
pub each_right : (raws : List Raw) → source_errors raws ≡ [] → AreRight raws
each_right [] e = absurd cc
each_right (r ∷ rs) e =
    let clean = none_of_both (errors_in_blocks (r ∷ rs)) (stray_errors (r ∷ rs)) e in
    each (r ∷ rs) clean.0 clean.1
  where
    each : (raws : List Raw) → errors_in_blocks raws ≡ [] → stray_errors raws ≡ [] → AreRight raws
    each [] e s = tt
    each (r ∷ rs) e s =
        let first = strays_first r rs s in
        let both = none_of_both (errors_in_block r) (errors_in_blocks rs) e in
        (sym (errors_in_one r first.0) ∙ both.0, each rs both.1 first.1)
      where
        strays_first : (r : Raw) (rs : List Raw) → stray_errors (r ∷ rs) ≡ [] → (is_block_at r ≡ true) × (stray_errors rs ≡ [])
        strays_first r rs s = by (is_block_at r) s
          where
            by : (b : Bool) → (if b then stray_errors rs else no_block (place_at start r)) ≡ [] → (b ≡ true) × (stray_errors rs ≡ [])
            by true s = (refl, s)
            by false s = absurd cc

-- an item without errors is a block
right_is_block : (r : Raw) → errors_at (alone r) ≡ [] → is_block_at r ≡ true
unfolding errors_at writtens is_block_at
right_is_block r e = by (written r) e
  where
    by_word : (b : Bool) (place : Place) (errors : List Message) → (if b then errors else no_block place) ≡ [] → b ≡ true
    by_word true place errors e = refl
    by_word false place errors e = absurd cc

    by : (w : Written) → errors_of (more w none) ≡ [] → is_block w ≡ true
    by (piece.item place word args body) e = by_word (is_block_word word) place (block_errors place args body) e
    by (piece.number place n) e = absurd cc
    by (piece.text place bytes) e = absurd cc
    by (piece.apply place op args) e = absurd cc
    by (piece.listed place items) e = absurd cc
    by piece.comma e = absurd cc
    by piece.semicolon e = absurd cc
    by piece.empty e = absurd cc

-- a source of blocks without errors has none
pub right_source : (raws : List Raw) → (raws ≡ [] → ⊥) → AreRight raws → source_errors raws ≡ []
right_source [] some h = absurd (some refl)
right_source (r ∷ rs) some h = ap (λ es. es ++ stray_errors (r ∷ rs)) (no_errors (r ∷ rs) h) ∙ no_strays (r ∷ rs) h
  where
    no_errors : (raws : List Raw) → AreRight raws → errors_in_blocks raws ≡ []
    no_errors [] h = refl
    no_errors (r ∷ rs) h = ap (λ es. es ++ errors_in_blocks rs) (errors_in_one r (right_is_block r h.0) ∙ h.0) ∙ no_errors rs h.1

    no_strays : (raws : List Raw) → AreRight raws → stray_errors raws ≡ []
    no_strays [] h = refl
    no_strays (r ∷ rs) h = ap (λ b. if b then stray_errors rs else no_block (place_at start r)) (right_is_block r h.0) ∙ no_strays rs h.1

-- a source without items
pub no_source : (raws : List Raw) → length raws ≡ 0 → source_errors raws ≡ no_block start
no_source [] e = refl
no_source (r ∷ rs) e = absurd cc

pub ruleset source_rules = (no_source, source_told, source_made)

-- what an item adds
pub none_added : (r : Raw) (old : List Message) → is_block_at r ≡ false → old ≡ old ++ errors_in_block r
none_added r old e = sym (ap (λ es. old ++ es) (no_errors_in r e) ∙ append-nil old)

pub block_added : (r : Raw) (old : List Message) → is_block_at r ≡ true → errors_at (alone r) ≡ [] → old ≡ old ++ errors_in_block r
block_added r old e clean = sym (ap (λ es. old ++ es) (errors_in_one r e ∙ clean) ∙ append-nil old)

pub errors_added : (r : Raw) (old new messages : List Message) → is_block_at r ≡ true → messages ≡ errors_at (alone r) → new ≡ old ++ messages → new ≡ old ++ errors_in_block r
errors_added r old new messages e are is = is ∙ ap (λ es. old ++ es) (are ∙ sym (errors_in_one r e))

pub ruleset added_rules = (none_added, block_added, errors_added)
