-- Lists of nodes that are folded where they stand, and terms.
use Rattle.std.proofs.Common.{◌≡◌, ℕ, suc, ◌<◌, ◌≤◌, Bool, true, false, List, [], ◌∷◌, ◌++◌, length, get_or, Vec, Global, refl, sym, ap, ◌∙◌, arith}
use Rattle.acpi_values.specs.declared.width.Width.{Width}
use Rattle.acpi_values.specs.declared.operator.Plain.{Plain}
use Rattle.asl_tree.specs.declared.path.Path.{Path}
use Rattle.asl_tree.specs.declared.term.Op.{Op}
use Rattle.asl_tree.specs.declared.term.Node.{Node}
use Rattle.asl_tree.specs.declared.term.Term.{Term}
use Rattle.asl_tree.specs.declared.term.Term as D
use Rattle.asl_tree.specs.declared.term.Term.TheVariants as V
use Rattle.asl_tree.specs.Tree.{At, Call, Trees, no_trees, tree}
use Rattle.asl_tree.specs.View.{form, tree_of, trees_of}
use Rattle.acpi_names.specs.Walked.{node_tree}
use Rattle.term_places.specs.Places.{term_places, places_of}
use Rattle.acpi_names.proofs.Trees.{form_tree, call_tree}
use Rattle.asl_lower.proofs.Turns.{Turns}
use Rattle.asl_fold.specs.declared.fate.Fate.{Fate}
use Rattle.asl_fold.specs.declared.part.Listing.{Listing}
use Rattle.asl_fold.specs.declared.part.MemberRole.{MemberRole}
use Rattle.asl_fold.specs.Folds.{folded}
use Rattle.asl_fold.specs.Nodes.{part_in, listing_of, folded_as, folded_by, fate_form, replaced_form, reduced_form}
use Rattle.asl_fold.proofs.Forms.{is_operator, operands_are, kept_are, other_form}
use Rattle.asl_fold.proofs.Stored.{operator_folded, replaced_is, plain_stays}

-- ---- the members of a list

-- a member and what it is folded to
pub record IsFolded (width : Width) (part : MemberRole) (old now : Node) : Type 0 where
  pub is : node_tree now ≡ folded_as width part (node_tree old)
  pub places : term_places now ≡ term_places old

trees_folded : (width : Width) (part : ℕ → MemberRole) (old now : List Node) → length now ≡ length old → ((k : ℕ) → k < length old → (e : Node) → IsFolded width (part k) (get_or old k e) (get_or now k e)) → trees_of now ≡ folded_by width part (trees_of old)
unfolding trees_of
trees_folded width part [] [] size h = refl
trees_folded width part [] (n ∷ now) size h = absurd (omega (arith, size))
trees_folded width part (o ∷ old) [] size h = absurd (omega (arith, size))
trees_folded width part (o ∷ old) (n ∷ now) size h =
    ap (λ t. tree t (trees_of now)) (h 0 (omega arith) o).is
    ∙ ap (tree (folded_as width (part 0) (node_tree o))) (trees_folded width (λ i. part (suc i)) old now (omega (arith, size)) (λ k lt e. h (suc k) (omega (arith, lt)) e))

places_folded : (width : Width) (part : ℕ → MemberRole) (old now : List Node) → length now ≡ length old → ((k : ℕ) → k < length old → (e : Node) → IsFolded width (part k) (get_or old k e) (get_or now k e)) → places_of now ≡ places_of old
unfolding places_of
places_folded width part [] [] size h = refl
places_folded width part [] (n ∷ now) size h = absurd (omega (arith, size))
places_folded width part (o ∷ old) [] size h = absurd (omega (arith, size))
places_folded width part (o ∷ old) (n ∷ now) size h =
    ap (λ ps. ps ++ places_of now) (h 0 (omega arith) o).places
    ∙ ap (λ ps. term_places o ++ ps) (places_folded width (λ i. part (suc i)) old now (omega (arith, size)) (λ k lt e. h (suc k) (omega (arith, lt)) e))

pub all_folded : (width : Width) (part : ℕ → MemberRole) (old now : List Node) (i : ℕ) → length old ≤ i → Turns (λ k. IsFolded width (part k)) old now i → (trees_of now ≡ folded_by width part (trees_of old)) × (places_of now ≡ places_of old)
all_folded width part old now i le turns =
    let each : (k : ℕ) → k < length old → (e : Node) → IsFolded width (part k) (get_or old k e) (get_or now k e) = λ k lt e. turns.done k (omega (arith, lt, le)) e in
    (trees_folded width part old now turns.size each, places_folded width part old now turns.size each)

-- a list of what is no term
pub others_folded : (width : Width) (listing : Listing) (ts : Trees) → listing ≡ Listing.Others → ts ≡ folded_by width (part_in listing) ts
others_folded width listing ts e = sym (ap (λ l. folded_by width (part_in l) ts) e ∙ kept_are width ts)

-- ---- a term

abbrev is_flat : Term → Bool
is_flat (D.Call' path shape args) = false
is_flat (D.Form' op shape args shape' body) = false
is_flat _ = true

flat_folded : (width : Width) (statement : Bool) (at : At) (t : Term) → is_flat t ≡ true → tree_of at t ≡ folded width statement (tree_of at t)
unfolding tree_of
flat_folded width statement at (D.Call' path shape args) e = absurd (grind arith)
flat_folded width statement at (D.Form' op shape args shape' body) e = absurd (grind arith)
flat_folded width statement at t e = refl

pub other_folded : (width : Width) (statement : Bool) (at : At) (t : Term) → ((p : Path) (v : Vec Node Global) → t ≡ D.Call p v → ⊥) → ((o : Op) (v w : Vec Node Global) → t ≡ D.Form o v w → ⊥) → tree_of at t ≡ folded width statement (tree_of at t)
other_folded width statement at t not_call not_form = flat_folded width statement at t (by_layer (D.out-Term t) (sym (D.roll-out-Term t)))
  where
    by_layer : (f : D.Term-F Term Node) → t ≡ D.roll-Term f → is_flat t ≡ true
    by_layer (D.Term-F.Call p v) e = absurd (not_call p v (e ∙ V.rolls-Call p v))
    by_layer (D.Term-F.Form o v w) e = absurd (not_form o v w (e ∙ V.rolls-Form o v w))
    by_layer (D.Term-F.Name p) e = ap is_flat (e ∙ V.rolls-Name p)
    by_layer (D.Term-F.Integer n) e = ap is_flat (e ∙ V.rolls-Integer n)
    by_layer (D.Term-F.Text text) e = ap is_flat (e ∙ V.rolls-Text text)
    by_layer (D.Term-F.Fill bytes named) e = ap is_flat (e ∙ V.rolls-Fill bytes named)
    by_layer (D.Term-F.Word word) e = ap is_flat (e ∙ V.rolls-Word word)
    by_layer (D.Term-F.Local n) e = ap is_flat (e ∙ V.rolls-Local n)
    by_layer (D.Term-F.Arg n) e = ap is_flat (e ∙ V.rolls-Arg n)
    by_layer (D.Term-F.Debug) e = ap is_flat (e ∙ V.rolls-Debug)
    by_layer (D.Term-F.Omitted) e = ap is_flat (e ∙ V.rolls-Omitted)
    by_layer (D.Term-F.Unit segment bits) e = ap is_flat (e ∙ V.rolls-Unit segment bits)
    by_layer (D.Term-F.Skip n) e = ap is_flat (e ∙ V.rolls-Skip n)
    by_layer (D.Term-F.Offset n) e = ap is_flat (e ∙ V.rolls-Offset n)
    by_layer (D.Term-F.Access access attribute count) e = ap is_flat (e ∙ V.rolls-Access access attribute count)

-- and so it does whatever member of a list it is
pub leaf_folded : (width : Width) (what : MemberRole) (at : At) (t : Term) → ((p : Path) (v : Vec Node Global) → t ≡ D.Call p v → ⊥) → ((o : Op) (v w : Vec Node Global) → t ≡ D.Form o v w → ⊥) → tree_of at t ≡ folded_as width what (tree_of at t)
leaf_folded width MemberRole.Kept at t not_call not_form = refl
leaf_folded width MemberRole.Operand at t not_call not_form = other_folded width false at t not_call not_form
leaf_folded width MemberRole.Statement at t not_call not_form = other_folded width true at t not_call not_form

pub call_folded : (width : Width) (statement : Bool) (at : At) (t : Term) (path : Path) (args made : Vec Node Global) → t ≡ D.Call path args → trees_of made.items ≡ folded_by width (part_in Listing.Elements) (trees_of args.items)
    → tree_of at (D.Call path made) ≡ folded width statement (tree_of at t)
call_folded width statement at t path args made e h =
    call_tree at path made ∙ ap (Call at path) (h ∙ operands_are width (trees_of args.items)) ∙ ap (folded width statement) (sym (call_tree at path args)) ∙ ap (λ t. folded width statement (tree_of at t)) (sym e)

form_folded : (width : Width) (statement : Bool) (at : At) (t made : Term) (op : Op) (args body : Vec Node Global) → t ≡ D.Form op args body → tree_of at made ≡ folded width statement (form at op (trees_of args.items) (trees_of body.items))
    → tree_of at made ≡ folded width statement (tree_of at t)
form_folded width statement at t made op args body e h = h ∙ ap (folded width statement) (sym (form_tree at op args body)) ∙ ap (λ t. folded width statement (tree_of at t)) (sym e)

no_operator : (op : Op) → ((plain : Plain) → op ≡ Op.Plain plain → ⊥) → is_operator op ≡ false
no_operator (Op.Plain plain) never = absurd (never plain refl)
no_operator op never = refl

-- a form that is no plain operator
pub kept_folded : (width : Width) (statement : Bool) (at : At) (t : Term) (op : Op) (args body made more : Vec Node Global) (listing : Listing) → t ≡ D.Form op args body → ((plain : Plain) → op ≡ Op.Plain plain → ⊥)
    → trees_of made.items ≡ folded_by width (part_in (Listing.Arguments op)) (trees_of args.items) → listing ≡ listing_of op → trees_of more.items ≡ folded_by width (part_in listing) (trees_of body.items)
    → tree_of at (D.Form op made more) ≡ folded width statement (tree_of at t)
kept_folded width statement at t op args body made more listing e never ha l hb =
    form_folded width statement at t (D.Form op made more) op args body e
    (form_tree at op made more ∙ ap (λ ts. form at op ts (trees_of more.items)) ha
    ∙ ap (form at op (folded_by width (part_in (Listing.Arguments op)) (trees_of args.items))) (hb ∙ ap (λ l. folded_by width (part_in l) (trees_of body.items)) l)
    ∙ sym (other_form width statement at op (trees_of args.items) (trees_of body.items) (no_operator op never)))

-- a plain operator
plain_by : (width : Width) (statement : Bool) (at : At) (op : Plain) (args body : Trees)
    → reduced_form width statement op (folded_by width (part_in (Listing.Arguments (Op.Plain op))) args) (folded_by width (part_in (listing_of (Op.Plain op))) body) ≡ folded width statement (form at (Op.Plain op) args body)
plain_by width statement at op args no_trees = sym (operator_folded width statement op args)
plain_by width statement at (Plain.Number op) args (tree t ts) = refl
plain_by width statement at (Plain.Data op) args (tree t ts) = refl
plain_by width statement at (Plain.Event op) args (tree t ts) = refl

pub plain_folded : (width : Width) (statement : Bool) (at : At) (t made : Term) (op : Op) (plain : Plain) (args body now more : Vec Node Global) (listing : Listing) (left right : List Node) (fate : Fate) → t ≡ D.Form op args body → op ≡ Op.Plain plain
    → trees_of now.items ≡ folded_by width (part_in (Listing.Arguments op)) (trees_of args.items) → listing ≡ listing_of op → trees_of more.items ≡ folded_by width (part_in listing) (trees_of body.items)
    → left ≡ now.items → right ≡ more.items → fate ≡ fate_form width statement plain (trees_of left) (trees_of right) → tree_of at made ≡ replaced_form fate plain (trees_of now.items) (trees_of more.items)
    → tree_of at made ≡ folded width statement (tree_of at t)
plain_folded width statement at t made op plain args body now more listing left right fate e is ha l hb el er f h =
    let operator : Op = Op.Plain plain in
    form_folded width statement at t made op args body e
    (replaced_is width statement plain (trees_of now.items) (trees_of more.items) fate (tree_of at made)
    (f ∙ ap (λ ns. fate_form width statement plain (trees_of ns) (trees_of right)) el ∙ ap (λ ns. fate_form width statement plain (trees_of now.items) (trees_of ns)) er) h
    ∙ ap (λ ts. reduced_form width statement plain ts (trees_of more.items)) (ha ∙ ap (λ op. folded_by width (part_in (Listing.Arguments op)) (trees_of args.items)) is)
    ∙ ap (reduced_form width statement plain (folded_by width (part_in (Listing.Arguments operator)) (trees_of args.items)))
    (hb ∙ ap (λ l. folded_by width (part_in l) (trees_of body.items)) (l ∙ ap listing_of is))
    ∙ plain_by width statement at plain (trees_of args.items) (trees_of body.items) ∙ ap (λ op. folded width statement (form at op (trees_of args.items) (trees_of body.items))) (sym is))

-- one that stays
pub stays_folded : (at : At) (op : Op) (plain : Plain) (now more : Vec Node Global) → op ≡ Op.Plain plain → tree_of at (D.Form op now more) ≡ replaced_form Fate.Stays plain (trees_of now.items) (trees_of more.items)
stays_folded at op plain now more is = ap (λ o. tree_of at (D.Form o now more)) is ∙ plain_stays at plain now more
