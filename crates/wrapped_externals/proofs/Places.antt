-- The flags of a term are as many as the places in its braces, and with them its places are those of the term that is wrapped.
use Rattle.std.proofs.Common.{◌≡◌, ℕ, zero, suc, ◌+◌, Bool, true, false, List, [], ◌∷◌, ◌++◌, length, reverse, Vec, Global, Option, Some, None, refl, sym, ap, ◌∙◌, arith, append_assoc, length-append, subst}
use Rattle.std.specs.Prelude.{nat_le, not, if◌then◌else◌}
use Rattle.std.proofs.lemmas.List.{append-nil, reverse-append, reverse-reverse}
use Rattle.iasl_messages.specs.declared.place.Place.{Place}
use Rattle.acpi_values.specs.Operators.{row_of}
use Rattle.acpi_values.specs.declared.operator.IntOp.{IntOp}
use Rattle.acpi_values.specs.declared.operator.Plain.{Plain}
use Rattle.acpi_state.specs.Outcomes.{choose}
use Rattle.asl_tree.specs.FieldItems.{FieldItem}
use Rattle.asl_tree.specs.declared.path.Path.{Path}
use Rattle.asl_tree.specs.declared.term.Op.{Op}
use Rattle.asl_tree.specs.declared.term.Declaration.TheVariants as Declaration
use Rattle.asl_tree.specs.declared.term.Control.TheVariants as Control
use Rattle.asl_tree.specs.declared.term.Special.TheVariants as Special
use Rattle.asl_tree.specs.declared.term.Symbolic.TheVariants as Symbolic
use Rattle.asl_tree.specs.declared.term.Node.{Node}
use Rattle.asl_tree.specs.declared.term.Term.{Term}
use Rattle.asl_tree.specs.declared.term.Term as D
use Rattle.asl_tree.specs.Tree.{At, Tree, Integer, String, Omitted, Use, External, ElseIf, Else, Package, VarPackage, Misshapen, Trees, no_trees, tree, count, Field, IndexField, BankField, UnitName}
use Rattle.asl_tree.specs.View.{fits, form, operands_as, apply_of, operated, symbol_of, buffer, body_bytes, packaged, counted, items_in, tree_of, row_trees, trees_of}
use Rattle.acpi_names.specs.Parts.{are}
use Rattle.acpi_names.specs.Walked.{OfForm, term_shape, node_tree}
use Rattle.acpi_names.proofs.Trees.{form_tree, call_tree}
use Rattle.named_sessions.specs.Shaped.{AreShaped, IsShaped}
use Rattle.asl_lower.specs.Nests.{backwards}
use Rattle.asl_lower.proofs.Backwards.{pushed}
use Rattle.term_places.specs.Places.{holds_terms, inner_places, row_places, term_places, places_of}
use Rattle.term_places.proofs.Places.{form_places, no_places, one_place, places_cons, places-append}
use Rattle.wrapped_externals.specs.declared.kind.TermRole.{TermRole}
use Rattle.wrapped_externals.specs.Kinds.{flagged, tree_kind, shape_kind}
use Rattle.wrapped_externals.specs.Starts.{is_free, inner_starts, starts, with_ifs}
use Rattle.wrapped_externals.specs.Nodes.{no_flags, pending}
use Rattle.wrapped_externals.proofs.Nodes.{none, is_flat, is_other, kind_tree, turned}

-- ---- forms

items_starts : (o : Option (List (FieldItem UnitName))) (made : List (FieldItem UnitName) → Tree) → ((items : List (FieldItem UnitName)) → inner_starts (made items) ≡ []) → inner_starts (choose o Misshapen made) ≡ []
items_starts None made h = refl
items_starts (Some items) made h = h items

apply_starts : (op : Plain) (args : Trees) → inner_starts (apply_of op args) ≡ []
apply_starts (Plain.Number IntOp.LNotEqual) args = refl
apply_starts (Plain.Number IntOp.LLessEqual) args = refl
apply_starts (Plain.Number IntOp.LGreaterEqual) args = refl
apply_starts op args = refl

buffer_starts : (size : Tree) (bytes : List ℕ) → inner_starts (buffer size bytes) ≡ []
buffer_starts Omitted bytes = refl
buffer_starts size bytes = refl

counted_starts : (n : ℕ) (elements : Trees) → inner_starts (counted n elements) ≡ []
counted_starts n elements = by_less (nat_le n 255)
  where
    by_less : (c : Bool) → inner_starts (if c then Package n elements else VarPackage (Integer n) elements) ≡ []
    by_less true = refl
    by_less false = refl

packaged_starts : (size : Tree) (elements : Trees) → inner_starts (packaged size elements) ≡ []
packaged_starts Omitted elements = counted_starts (count elements) elements
packaged_starts (Integer n) elements = counted_starts n elements
packaged_starts size elements = refl

operated_starts : (op : Plain) (args : Trees) → inner_starts (operated op args) ≡ []
operated_starts (Plain.Number IntOp.LNotEqual) args = refl
operated_starts (Plain.Number IntOp.LLessEqual) args = refl
operated_starts (Plain.Number IntOp.LGreaterEqual) args = refl
operated_starts op args = refl

symbol_starts : (op : Plain) (args : Trees) → inner_starts (symbol_of op args) ≡ []
symbol_starts op args = by_fit (fits (row_of op).operands args)
  where
    by_fit : (c : Bool) → inner_starts (if c then operated op (operands_as (row_of op).operands args) else Misshapen) ≡ []
    by_fit true = operated_starts op (operands_as (row_of op).operands args)
    by_fit false = refl

inner_none : (at : At) (op : Op) (args body : Trees) → holds_terms op ≡ false → inner_starts (form at op args body) ≡ []
inner_none here (Op.Declaration Declaration.Name) (tree (Use at name) (tree value no_trees)) no_trees e = refl
inner_none here (Op.Declaration Declaration.Alias) (tree (Use from source) (tree (Use at name) no_trees)) no_trees e = refl
inner_none here (Op.Declaration Declaration.External) (tree (Use at name) (tree (Integer type) no_trees)) no_trees e = refl
inner_none here (Op.Declaration Declaration.External) (tree (Use at name) (tree (Integer type) (tree (Integer parameters) no_trees))) no_trees e = refl
inner_none here (Op.Declaration Declaration.Method) args body e = absurd cc
inner_none here (Op.Declaration Declaration.Mutex) (tree (Use at name) (tree (Integer level) no_trees)) no_trees e = refl
inner_none here (Op.Declaration Declaration.Event) (tree (Use at name) no_trees) no_trees e = refl
inner_none here (Op.Declaration Declaration.Device) args body e = absurd cc
inner_none here (Op.Declaration Declaration.ThermalZone) args body e = absurd cc
inner_none here (Op.Declaration Declaration.PowerResource) args body e = absurd cc
inner_none here (Op.Declaration Declaration.Processor) args body e = absurd cc
inner_none here (Op.Declaration Declaration.Scope) args body e = absurd cc
inner_none here (Op.Declaration Declaration.OperationRegion) (tree (Use at name) (tree (Integer space) (tree offset (tree size no_trees)))) no_trees e = refl
inner_none here (Op.Declaration Declaration.Field) (tree (Use from region) (tree (Integer flags) no_trees)) body e = items_starts (items_in body) (λ items. Field here from region flags items) (λ items. refl)
inner_none here (Op.Declaration Declaration.IndexField) (tree (Use from index) (tree (Use to register) (tree (Integer flags) no_trees))) body e = items_starts (items_in body) (λ items. IndexField here from index to register flags items) (λ items. refl)
inner_none here (Op.Declaration Declaration.BankField) (tree (Use from region) (tree (Use to bank) (tree value (tree (Integer flags) no_trees)))) body e = items_starts (items_in body) (λ items. BankField here from region to bank value flags items) (λ items. refl)
inner_none here (Op.Declaration Declaration.CreateField) (tree source (tree index (tree bits (tree (Use at name) no_trees)))) no_trees e = refl
inner_none here (Op.Declaration Declaration.CreateBitField) (tree source (tree index (tree (Use at name) no_trees))) no_trees e = refl
inner_none here (Op.Declaration Declaration.CreateByteField) (tree source (tree index (tree (Use at name) no_trees))) no_trees e = refl
inner_none here (Op.Declaration Declaration.CreateWordField) (tree source (tree index (tree (Use at name) no_trees))) no_trees e = refl
inner_none here (Op.Declaration Declaration.CreateDWordField) (tree source (tree index (tree (Use at name) no_trees))) no_trees e = refl
inner_none here (Op.Declaration Declaration.CreateQWordField) (tree source (tree index (tree (Use at name) no_trees))) no_trees e = refl
inner_none here (Op.Control Control.Return) (tree value no_trees) no_trees e = refl
inner_none here (Op.Control Control.If) args body e = absurd cc
inner_none here (Op.Control Control.ElseIf) args body e = absurd cc
inner_none here (Op.Control Control.Else) args body e = absurd cc
inner_none here (Op.Control Control.While) args body e = absurd cc
inner_none here (Op.Control Control.For) (tree start (tree test (tree step no_trees))) body e = refl
inner_none here (Op.Control Control.Printf) (tree (String format) args) no_trees e = refl
inner_none here (Op.Control Control.Fprintf) (tree place (tree (String format) args)) no_trees e = refl
inner_none here (Op.Control Control.Switch) (tree value no_trees) cases e = refl
inner_none here (Op.Control Control.Case) (tree value no_trees) body e = refl
inner_none here (Op.Control Control.Default) no_trees body e = refl
inner_none here (Op.Control Control.Break) no_trees no_trees e = refl
inner_none here (Op.Control Control.Continue) no_trees no_trees e = refl
inner_none here (Op.Literal literal) no_trees no_trees e = refl
inner_none here (Op.Plain op) args no_trees e = apply_starts op args
inner_none here (Op.Special Special.CondRefOf) (tree place (tree target no_trees)) no_trees e = refl
inner_none here (Op.Special Special.Buffer) (tree size no_trees) body e = buffer_starts size (body_bytes body)
inner_none here (Op.Special Special.Package) (tree size no_trees) body e = packaged_starts size body
inner_none here (Op.Symbolic (Symbolic.Operator op)) args no_trees e = symbol_starts op args
inner_none here (Op.Symbolic Symbolic.Assign) (tree target (tree value no_trees)) no_trees e = refl
inner_none here (Op.Symbolic (Symbolic.AssignBy op)) (tree target (tree value no_trees)) no_trees e = refl
inner_none here _ _ _ e = refl

-- a form that holds a list of terms, and may be written
inner_of : (at : At) (op : Op) (args body : Trees) → holds_terms op ≡ true → IsShaped (form at op args body) → AreShaped body × (inner_starts (form at op args body) ≡ starts false body)
inner_of here (Op.Declaration Declaration.Method) (tree (Use at name) (tree (Integer arity) no_trees)) body e h = (h.2, refl)
inner_of here (Op.Declaration Declaration.Method) _ body e h = absurd h
inner_of here (Op.Declaration Declaration.Device) (tree (Use at name) no_trees) body e h = (h.2, refl)
inner_of here (Op.Declaration Declaration.Device) _ body e h = absurd h
inner_of here (Op.Declaration Declaration.ThermalZone) (tree (Use at name) no_trees) body e h = (h.2, refl)
inner_of here (Op.Declaration Declaration.ThermalZone) _ body e h = absurd h
inner_of here (Op.Declaration Declaration.PowerResource) (tree (Use at name) (tree (Integer level) (tree (Integer order) no_trees))) body e h = (h.2, refl)
inner_of here (Op.Declaration Declaration.PowerResource) _ body e h = absurd h
inner_of here (Op.Declaration Declaration.Processor) (tree (Use at name) (tree (Integer number) (tree (Integer address) (tree (Integer size) no_trees)))) body e h = (h.2, refl)
inner_of here (Op.Declaration Declaration.Processor) _ body e h = absurd h
inner_of here (Op.Declaration Declaration.Scope) (tree (Use at name) no_trees) body e h = (h.1, refl)
inner_of here (Op.Declaration Declaration.Scope) _ body e h = absurd h
inner_of here (Op.Control Control.If) (tree test no_trees) body e h = (h.2, refl)
inner_of here (Op.Control Control.If) _ body e h = absurd h
inner_of here (Op.Control Control.ElseIf) (tree test no_trees) body e h = (h.2, refl)
inner_of here (Op.Control Control.ElseIf) _ body e h = absurd h
inner_of here (Op.Control Control.Else) no_trees body e h = (h, refl)
inner_of here (Op.Control Control.Else) _ body e h = absurd h
inner_of here (Op.Control Control.While) (tree test no_trees) body e h = (h.2, refl)
inner_of here (Op.Control Control.While) _ body e h = absurd h
inner_of here _ args body e h = absurd cc

-- ---- as many flags as places

starts_length : (inside : Bool) (t : Tree) (ts : Trees) (n : ℕ) → ((inside : Bool) → length (starts inside ts) ≡ n) → length (starts inside (tree t ts)) ≡ suc (length (inner_starts t) + n)
starts_length inside (External here at name type parameters) ts n h = let k = h true in omega (arith, k)
starts_length inside t ts n h = ap suc (length-append (inner_starts t) (starts false ts) ∙ ap (λ k. length (inner_starts t) + k) (h false))

form_length : (at : At) (op : Op) (args body : Trees) (places : List Place) → IsShaped (form at op args body) → (AreShaped body → length (starts false body) ≡ length places) → length (inner_starts (form at op args body)) ≡ length (if holds_terms op then places else [])
form_length at op args body places h k = by_holds (holds_terms op) refl
  where
    by_holds : (c : Bool) → holds_terms op ≡ c → length (inner_starts (form at op args body)) ≡ length (if c then places else [])
    by_holds true e = let i = inner_of at op args body e h in ap length i.1 ∙ k i.0
    by_holds false e = ap length (inner_none at op args body e)

mutual
  unfolding tree_of inner_places

  pub term_length : (at : At) (t : Term) → IsShaped (tree_of at t) → length (inner_starts (tree_of at t)) ≡ length (inner_places t)
  term_length at (D.Form' op shape args shape' body) h = form_length at op (row_trees args) (row_trees body) (row_places body) h (λ k. row_length false body k)
  term_length at t h = refl

  row_length : {m : _} (inside : Bool) (row : D.Row_of-Node m) → AreShaped (row_trees row) → length (starts inside (row_trees row)) ≡ length (row_places row)
  row_length inside D.end_of-Node h = refl
  row_length inside (D.more_of-Node id place term rest) h =
      let at : At = record { id = id; place = place } in
      starts_length inside (tree_of at term) (row_trees rest) (length (row_places rest)) (λ i. row_length i rest h.2)
      ∙ ap (λ n. suc (n + length (row_places rest))) (term_length at term h.0) ∙ sym (ap suc (length-append (inner_places term) (row_places rest)))

-- ---- places with flags

ifs_append : (fs gs : List Bool) (ps qs : List Place) → length fs ≡ length ps → with_ifs (fs ++ gs) (ps ++ qs) ≡ with_ifs fs ps ++ with_ifs gs qs
ifs_append [] gs [] qs e = refl
ifs_append [] gs (p ∷ ps) qs e = absurd (omega (arith, e))
ifs_append (f ∷ fs) gs [] qs e = absurd (omega (arith, e))
ifs_append (true ∷ fs) gs (p ∷ ps) qs e = ap (λ xs. p ∷ p ∷ xs) (ifs_append fs gs ps qs (omega (arith, e)))
ifs_append (false ∷ fs) gs (p ∷ ps) qs e = ap (λ xs. p ∷ xs) (ifs_append fs gs ps qs (omega (arith, e)))

unflagged : (n : ℕ) (gs : List Bool) (ps qs : List Place) → length ps ≡ n → with_ifs (no_flags n ++ gs) (ps ++ qs) ≡ ps ++ with_ifs gs qs
unflagged zero gs [] qs e = refl
unflagged zero gs (p ∷ ps) qs e = absurd (omega (arith, e))
unflagged (suc n) gs [] qs e = absurd (omega (arith, e))
unflagged (suc n) gs (p ∷ ps) qs e = ap (λ xs. p ∷ xs) (unflagged n gs ps qs (omega (arith, e)))

pub no_place : (c : Bool) → with_ifs (c ∷ []) [] ≡ []
no_place true = refl
no_place false = refl

-- a run before terms that do not go on with it
pending_put : (k : ℕ) (us : Trees) (c : Bool) (qs rs : List Place) → length qs ≡ k → is_free us ≡ c → starts true us ≡ starts false us → with_ifs (pending k us) (qs ++ rs) ≡ with_ifs (c ∷ []) qs ++ with_ifs (starts false us) rs
pending_put zero us c [] rs e f same = ap (λ xs. xs ++ with_ifs (starts false us) rs) (sym (no_place c))
pending_put zero us c (q ∷ qs) rs e f same = absurd (omega (arith, e))
pending_put (suc n) us c [] rs e f same = absurd (omega (arith, e))
pending_put (suc n) us c (q ∷ qs) rs e f same = ap (λ b. with_ifs (b ∷ (no_flags n ++ starts true us)) (q ∷ (qs ++ rs))) f ∙ by_free c
  where
    behind : with_ifs (no_flags n ++ starts true us) (qs ++ rs) ≡ qs ++ with_ifs (starts false us) rs
    behind = unflagged n (starts true us) qs rs (omega (arith, e)) ∙ ap (λ fs. qs ++ with_ifs fs rs) same

    by_free : (b : Bool) → with_ifs (b ∷ (no_flags n ++ starts true us)) (q ∷ (qs ++ rs)) ≡ with_ifs (b ∷ []) (q ∷ qs) ++ with_ifs (starts false us) rs
    by_free true = ap (λ xs. q ∷ q ∷ xs) behind
    by_free false = ap (λ xs. q ∷ xs) behind

starts_other : (inside : Bool) (t : Tree) (ts : Trees) → (tree_kind t ≡ TermRole.External → ⊥) → starts inside (tree t ts) ≡ (false ∷ inner_starts t) ++ starts false ts
starts_other inside (External here at name type parameters) ts never = absurd (never refl)
starts_other inside t ts never = refl

free_branch : (t : Tree) (ts : Trees) → tree_kind t ≡ TermRole.Branch → is_free (tree t ts) ≡ false
free_branch (Else body) ts e = refl
free_branch (ElseIf test body) ts e = refl
free_branch _ ts e = absurd cc

free_other : (t : Tree) (ts : Trees) → tree_kind t ≡ TermRole.Other → is_free (tree t ts) ≡ true
free_other (Else body) ts e = absurd cc
free_other (ElseIf test body) ts e = absurd cc
free_other (External here at name type parameters) ts e = absurd cc
free_other t ts e = refl

no_flag_moves : (n : ℕ) (gs : List Bool) → no_flags n ++ (false ∷ gs) ≡ false ∷ (no_flags n ++ gs)
no_flag_moves zero gs = refl
no_flag_moves (suc n) gs = ap (λ fs. false ∷ fs) (no_flag_moves n gs)

pending_external : (k : ℕ) (t : Tree) (ts : Trees) → tree_kind t ≡ TermRole.External → pending (suc k) ts ≡ pending k (tree t ts)
pending_external zero (External here at name type parameters) ts e = refl
pending_external (suc n) (External here at name type parameters) ts e = ap (λ fs. is_free ts ∷ fs) (sym (no_flag_moves n (starts true ts)))
pending_external k _ ts e = absurd cc

-- ---- the next term of a list

not_branch : (c : Bool) → flagged c ≡ TermRole.External → ⊥
not_branch true e = absurd cc
not_branch false e = absurd cc

external_op : (op : Op) (args body : Trees) → shape_kind (OfForm op args body) ≡ TermRole.External → holds_terms op ≡ false
external_op (Op.Declaration Declaration.External) args body e = refl
external_op (Op.Control Control.ElseIf) args body e = absurd (not_branch (are 1 args) e)
external_op (Op.Control Control.Else) args body e = absurd (not_branch (are 0 args) e)
external_op _ args body e = absurd cc

-- no terms stand in an External
none_inside : (t : Term) → shape_kind (term_shape t) ≡ TermRole.External → inner_places t ≡ []
unfolding inner_places
none_inside (D.Form' op shape args shape' body) e = ap (λ c. if c then row_places body else []) (external_op op (row_trees args) (row_trees body) e)
none_inside t e = refl

pub external_alone : (node : Node) (k : TermRole) → k ≡ shape_kind (term_shape node.term) → k ≡ TermRole.External → term_places node ≡ node.place ∷ []
external_alone node k shape is = ap (λ ps. node.place ∷ ps) (none_inside node.term (sym shape ∙ is))

pub external_counts : (run new : List Node) (node : Node) (k : TermRole) → new ≡ run ++ node ∷ [] → k ≡ shape_kind (term_shape node.term) → k ≡ TermRole.External → length (places_of run) ≡ length run → length (places_of new) ≡ length new
external_counts run new node k e shape is h =
    let one : places_of new ≡ places_of run ++ node.place ∷ [] = ap places_of e ∙ places-append run (node ∷ []) ∙ ap (λ ps. places_of run ++ ps) (one_place node ∙ external_alone node k shape is) in
    ap length one ∙ length-append (places_of run) (node.place ∷ []) ∙ ap (λ n. n + 1) h ∙ sym (length-append run (node ∷ [])) ∙ sym (ap length e)

pub external_placed : (made run new : List Node) (node : Node) (k : TermRole) (ts : Trees) (ps : List Place) → new ≡ run ++ node ∷ [] → k ≡ shape_kind (term_shape node.term) → k ≡ TermRole.External
    → places_of made ++ with_ifs (pending (length new) ts) (places_of new ++ ps) ≡ places_of made ++ with_ifs (pending (length run) (tree (node_tree node) ts)) (places_of run ++ (term_places node ++ ps))
external_placed made run new node k ts ps e shape is =
    let size : length new ≡ suc (length run) = let l = ap length e ∙ length-append run (node ∷ []) in omega (arith, l) in
    let places : places_of new ++ ps ≡ places_of run ++ (term_places node ++ ps) =
    ap (λ ns. places_of ns ++ ps) e ∙ ap (λ qs. qs ++ ps) (places-append run (node ∷ []) ∙ ap (λ qs. places_of run ++ qs) (one_place node)) ∙ append_assoc (places_of run) (term_places node) ps in
    ap (λ n. places_of made ++ with_ifs (pending n ts) (places_of new ++ ps)) size
    ∙ ap (λ fs. places_of made ++ with_ifs fs (places_of new ++ ps)) (pending_external (length run) (node_tree node) ts (kind_tree node k shape ∙ is))
    ∙ ap (λ qs. places_of made ++ with_ifs (pending (length run) (tree (node_tree node) ts)) qs) places

-- a term behind a run that is put
put_placed : (made run new rest : List Node) (node : Node) (kept : Bool) (ts : Trees) (ps : List Place) → rest ≡ [] → length (places_of run) ≡ length run → IsShaped (node_tree node)
    → (tree_kind (node_tree node) ≡ TermRole.External → ⊥) → is_free (tree (node_tree node) ts) ≡ not kept
    → places_of new ≡ (places_of made ++ with_ifs (not kept ∷ []) (places_of run)) ++ node.place ∷ with_ifs (inner_starts (node_tree node)) (inner_places node.term)
    → places_of new ++ with_ifs (pending (length rest) ts) (places_of rest ++ ps) ≡ places_of made ++ with_ifs (pending (length run) (tree (node_tree node) ts)) (places_of run ++ (term_places node ++ ps))
put_placed made run new rest node kept ts ps e alone shaped never free f =
    let t = node_tree node in
    let first = with_ifs (not kept ∷ []) (places_of run) in
    let inner = node.place ∷ with_ifs (inner_starts t) (inner_places node.term) in
    let later = with_ifs (starts false ts) ps in
    let term : with_ifs (starts false (tree t ts)) (term_places node ++ ps) ≡ inner ++ later =
    ap (λ fs. with_ifs fs (term_places node ++ ps)) (starts_other false t ts never)
    ∙ ifs_append (false ∷ inner_starts t) (starts false ts) (term_places node) ps (ap suc (term_length (record { id = node.id; place = node.place }) node.term shaped)) in
    let whole : with_ifs (pending (length run) (tree t ts)) (places_of run ++ (term_places node ++ ps)) ≡ first ++ (inner ++ later) =
    pending_put (length run) (tree t ts) (not kept) (places_of run) (term_places node ++ ps) alone free (starts_other true t ts never ∙ sym (starts_other false t ts never)) ∙ ap (λ qs. first ++ qs) term in
    ap (λ ns. places_of new ++ with_ifs (pending (length ns) ts) (places_of ns ++ ps)) e ∙ ap (λ qs. places_of new ++ with_ifs (starts false ts) (qs ++ ps)) no_places
    ∙ ap (λ qs. qs ++ later) f ∙ append_assoc (places_of made ++ first) inner later ∙ append_assoc (places_of made) first (inner ++ later) ∙ ap (λ qs. places_of made ++ qs) (sym whole)

branch_no_external : TermRole.Branch ≡ TermRole.External → ⊥
branch_no_external e = absurd cc

other_no_external : TermRole.Other ≡ TermRole.External → ⊥
other_no_external e = absurd cc

pub branch_placed : (made run new rest : List Node) (node : Node) (k : TermRole) (ts : Trees) (ps : List Place) → rest ≡ [] → length (places_of run) ≡ length run → IsShaped (node_tree node) → k ≡ shape_kind (term_shape node.term) → k ≡ TermRole.Branch
    → places_of new ≡ (places_of made ++ with_ifs (not true ∷ []) (places_of run)) ++ node.place ∷ with_ifs (inner_starts (node_tree node)) (inner_places node.term)
    → places_of new ++ with_ifs (pending (length rest) ts) (places_of rest ++ ps) ≡ places_of made ++ with_ifs (pending (length run) (tree (node_tree node) ts)) (places_of run ++ (term_places node ++ ps))
branch_placed made run new rest node k ts ps e alone shaped shape is f =
    let kind = kind_tree node k shape ∙ is in put_placed made run new rest node true ts ps e alone shaped (λ x. branch_no_external (sym kind ∙ x)) (free_branch (node_tree node) ts kind) f

pub other_placed : (made run new rest : List Node) (node : Node) (k : TermRole) (ts : Trees) (ps : List Place) → rest ≡ [] → length (places_of run) ≡ length run → IsShaped (node_tree node) → k ≡ shape_kind (term_shape node.term) → k ≡ TermRole.Other
    → places_of new ≡ (places_of made ++ with_ifs (not false ∷ []) (places_of run)) ++ node.place ∷ with_ifs (inner_starts (node_tree node)) (inner_places node.term)
    → places_of new ++ with_ifs (pending (length rest) ts) (places_of rest ++ ps) ≡ places_of made ++ with_ifs (pending (length run) (tree (node_tree node) ts)) (places_of run ++ (term_places node ++ ps))
other_placed made run new rest node k ts ps e alone shaped shape is f =
    let kind = kind_tree node k shape ∙ is in put_placed made run new rest node false ts ps e alone shaped (λ x. other_no_external (sym kind ∙ x)) (free_other (node_tree node) ts kind) f

-- what is put behind a run
pub put_behind_placed : (made put new run : List Node) (node low : Node) (kept : Bool) → places_of put ≡ places_of made ++ with_ifs (not kept ∷ []) (places_of run) → term_places low ≡ node.place ∷ with_ifs (inner_starts (node_tree node)) (inner_places node.term) → new ≡ put ++ low ∷ []
    → places_of new ≡ (places_of made ++ with_ifs (not kept ∷ []) (places_of run)) ++ node.place ∷ with_ifs (inner_starts (node_tree node)) (inner_places node.term)
put_behind_placed made put new run node low kept h k e =
    ap places_of e ∙ places-append put (low ∷ []) ∙ ap (λ qs. qs ++ places_of (low ∷ [])) h ∙ ap (λ qs. (places_of made ++ with_ifs (not kept ∷ []) (places_of run)) ++ qs) (one_place low ∙ k)

pub no_run_alone : (run : List Node) → run ≡ [] → length (places_of run) ≡ length run
no_run_alone run e = ap (λ ns. length (places_of ns)) e ∙ ap length no_places ∙ sym (ap length e)

-- ---- all of a list

-- the first of a list that may be written, and those behind it
pub first_shaped : (left more : List Node) (node : Node) → left ≡ more ++ node ∷ [] → AreShaped (backwards left) → IsShaped (node_tree node)
first_shaped left more node e h = let all : AreShaped (tree (node_tree node) (backwards more)) = subst AreShaped (pushed more left node e) h in all.0

pub rest_shaped : (left more : List Node) (node : Node) → left ≡ more ++ node ∷ [] → AreShaped (backwards left) → AreShaped (backwards more)
rest_shaped left more node e h = let all : AreShaped (tree (node_tree node) (backwards more)) = subst AreShaped (pushed more left node e) h in all.2

pub all_none : (all left made run : List Node) → left ≡ reverse all → made ≡ [] → run ≡ [] → places_of made ++ with_ifs (pending (length run) (backwards left)) (places_of run ++ places_of (reverse left)) ≡ with_ifs (starts false (trees_of all)) (places_of all)
all_none all left made run e f g =
    ap (λ ns. places_of ns ++ with_ifs (pending (length run) (backwards left)) (places_of run ++ places_of (reverse left))) f
    ∙ ap (λ qs. qs ++ with_ifs (pending (length run) (backwards left)) (places_of run ++ places_of (reverse left))) no_places
    ∙ ap (λ ns. with_ifs (pending (length ns) (backwards left)) (places_of ns ++ places_of (reverse left))) g
    ∙ ap (λ qs. with_ifs (starts false (backwards left)) (qs ++ places_of (reverse left))) no_places
    ∙ ap (λ ts. with_ifs (starts false ts) (places_of (reverse left))) (turned all left e)
    ∙ ap (λ ns. with_ifs (starts false (trees_of all)) (places_of ns)) (ap reverse e ∙ reverse-reverse all)

pub all_next : (all left more made new run rest : List Node) (node : Node) → left ≡ more ++ node ∷ []
    → ((ts : Trees) (ps : List Place) → places_of new ++ with_ifs (pending (length rest) ts) (places_of rest ++ ps) ≡ places_of made ++ with_ifs (pending (length run) (tree (node_tree node) ts)) (places_of run ++ (term_places node ++ ps)))
    → places_of made ++ with_ifs (pending (length run) (backwards left)) (places_of run ++ places_of (reverse left)) ≡ with_ifs (starts false (trees_of all)) (places_of all)
    → places_of new ++ with_ifs (pending (length rest) (backwards more)) (places_of rest ++ places_of (reverse more)) ≡ with_ifs (starts false (trees_of all)) (places_of all)
all_next all left more made new run rest node e step h =
    step (backwards more) (places_of (reverse more))
    ∙ ap (λ ts. places_of made ++ with_ifs (pending (length run) ts) (places_of run ++ (term_places node ++ places_of (reverse more)))) (sym (pushed more left node e))
    ∙ ap (λ ps. places_of made ++ with_ifs (pending (length run) (backwards left)) (places_of run ++ ps)) (sym (places_cons node (reverse more)) ∙ sym (ap places_of (ap reverse e ∙ reverse-append more (node ∷ []))))
    ∙ h

pub all_all : (all left made new run : List Node) → length left ≡ 0 → length (places_of run) ≡ length run → places_of new ≡ places_of made ++ with_ifs (not false ∷ []) (places_of run)
    → places_of made ++ with_ifs (pending (length run) (backwards left)) (places_of run ++ places_of (reverse left)) ≡ with_ifs (starts false (trees_of all)) (places_of all) → places_of new ≡ with_ifs (starts false (trees_of all)) (places_of all)
all_all all [] made new run e alone f h =
    f ∙ ap (λ qs. places_of made ++ qs) (sym (append-nil (with_ifs (true ∷ []) (places_of run))) ∙ sym (pending_put (length run) no_trees true (places_of run) [] alone refl refl))
    ∙ ap (λ ps. places_of made ++ with_ifs (pending (length run) no_trees) (places_of run ++ ps)) (sym no_places)
    ∙ ap (λ ts. places_of made ++ with_ifs (pending (length run) ts) (places_of run ++ places_of [])) (sym none) ∙ h
all_all all (node ∷ left) made new run e alone f h = absurd (omega (arith, e))

-- ---- a term

pub form_placed : (at : At) (t : Term) (op : Op) (args body made more : Vec Node Global) → t ≡ D.Form op args body → IsShaped (tree_of at t)
    → (holds_terms op ≡ true → AreShaped (trees_of body.items) → places_of more.items ≡ with_ifs (starts false (trees_of body.items)) (places_of body.items)) → inner_places (D.Form op made more) ≡ with_ifs (inner_starts (tree_of at t)) (inner_places t)
form_placed at t op args body made more e shaped h =
    form_places op made more ∙ by_holds (holds_terms op) refl ∙ ap (λ t. with_ifs (inner_starts t) (if holds_terms op then places_of body.items else [])) (sym is) ∙ ap (with_ifs (inner_starts (tree_of at t))) (sym (ap inner_places e ∙ form_places op args body))
  where
    made_of : Tree
    made_of = form at op (trees_of args.items) (trees_of body.items)

    is : tree_of at t ≡ made_of
    is = ap (tree_of at) e ∙ form_tree at op args body

    by_holds : (c : Bool) → holds_terms op ≡ c → (if c then places_of more.items else []) ≡ with_ifs (inner_starts made_of) (if c then places_of body.items else [])
    by_holds true k = let i = inner_of at op (trees_of args.items) (trees_of body.items) k (subst IsShaped is shaped) in h k i.0 ∙ ap (λ fs. with_ifs fs (places_of body.items)) (sym i.1)
    by_holds false k = ap (λ fs. with_ifs fs []) (sym (inner_none at op (trees_of args.items) (trees_of body.items) k))

pub call_placed : (at : At) (t : Term) (path : Path) (args made : Vec Node Global) → t ≡ D.Call path args → inner_places (D.Call path made) ≡ with_ifs (inner_starts (tree_of at t)) (inner_places t)
unfolding inner_places
call_placed at t path args made e = sym (ap (λ t. with_ifs (inner_starts (tree_of at t)) (inner_places t)) e ∙ ap (λ t. with_ifs (inner_starts t) []) (call_tree at path args))

flat_placed : (at : At) (t : Term) → is_flat t ≡ true → inner_places t ≡ with_ifs (inner_starts (tree_of at t)) (inner_places t)
unfolding tree_of inner_places
flat_placed at (D.Call' path shape args) e = absurd (grind arith)
flat_placed at (D.Form' op shape args shape' body) e = absurd (grind arith)
flat_placed at t e = refl

pub other_flat_placed : (at : At) (t : Term) → ((p : Path) (v : Vec Node Global) → t ≡ D.Call p v → ⊥) → ((o : Op) (v w : Vec Node Global) → t ≡ D.Form o v w → ⊥) → inner_places t ≡ with_ifs (inner_starts (tree_of at t)) (inner_places t)
other_flat_placed at t not_call not_form = flat_placed at t (is_other t not_call not_form)

-- the places of a wrapped node
pub node_placed : (node made : Node) → made.place ≡ node.place → inner_places made.term ≡ with_ifs (inner_starts (node_tree node)) (inner_places node.term) → term_places made ≡ node.place ∷ with_ifs (inner_starts (node_tree node)) (inner_places node.term)
node_placed node made e f = ap (λ p. p ∷ inner_places made.term) e ∙ ap (λ ps. node.place ∷ ps) f
