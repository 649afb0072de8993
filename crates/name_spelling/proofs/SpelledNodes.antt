-- Nodes whose names are spelled.
use Rattle.std.proofs.Common.{◌≡◌, ℕ, Bool, List, Vec, Global, Some, None, refl, sym, ap, ◌∙◌, arith}
use Rattle.acpi_values.specs.Paths.{AbsolutePath}
use Rattle.acpi_state.specs.Objects.{External, ExternalMethod, lookup}
use Rattle.asl_tree.specs.declared.path.Path.{Path}
use Rattle.asl_tree.specs.declared.term.Op.{Op}
use Rattle.asl_tree.specs.declared.term.Node.{Node}
use Rattle.asl_tree.specs.declared.term.Term.{Term}
use Rattle.asl_tree.specs.declared.term.Term as D
use Rattle.asl_tree.specs.declared.term.Term.TheVariants as V
use Rattle.acpi_names.specs.Shortest.{spelled_use, spelled_item}
use Rattle.asl_tree.specs.Tree.{At, Tree, Use, Call}
use Rattle.asl_tree.specs.View.{form, tree_of, trees_of}
use Rattle.asl_meaning.specs.Declarations.{ExternalType, written_type, external_object, written_external}
use Rattle.acpi_names.specs.Parts.{part_of, path_of, used_name}
use Rattle.acpi_names.specs.Spelled.{spelled, spelled_all, element_spelled}
use Rattle.name_spelling.specs.Spelling.{number_or_zero, part_args, part_body}
use Rattle.acpi_names.specs.Walked.{term_shape, value_form_of, Another}
use Rattle.name_spelling.proofs.SpelledForms.{spelled_form}
use Rattle.acpi_names.proofs.Trees.{form_tree, call_tree, used}

-- an arity is written always
written_arity : (e : ExternalType) (o : External) → (written_type e o).parameters ≡ Some (number_or_zero (written_type e o).parameters)
written_arity e (ExternalMethod arity) = refl
written_arity e o = refl

pub arity_written : (counts : List (AbsolutePath × ℕ)) (path : AbsolutePath) (e : ExternalType) → (written_external counts path e).parameters ≡ Some (number_or_zero (written_external counts path e).parameters)
arity_written counts path e = written_arity e (external_object e (lookup counts path))

-- a term by its parts as they were read
pub call_is : (t : Term) (path read : Path) (args list : Vec Node Global) → read ≡ path → list ≡ args → t ≡ D.Call path args → t ≡ D.Call read list
call_is t path read args list p a e = e ∙ ap (λ q. D.Call q args) (sym p) ∙ ap (D.Call read) (sym a)

pub form_is : (t : Term) (op read : Op) (args list body terms : Vec Node Global) → read ≡ op → list ≡ args → terms ≡ body → t ≡ D.Form op args body → t ≡ D.Form read list terms
form_is t op read args list body terms o a b e = e ∙ ap (λ q. D.Form q args body) (sym o) ∙ ap (λ q. D.Form read q body) (sym a) ∙ ap (D.Form read list) (sym b)

-- a term that is no name
pub unnamed_is : (t : Term) → ((p : Path) → t ≡ D.Name p → ⊥) → path_of t ≡ None
unnamed_is t not_name = by_layer (D.out-Term t) (sym (D.roll-out-Term t))
  where
    by_layer : (f : D.Term-F Term Node) → t ≡ D.roll-Term f → path_of t ≡ None
    by_layer (D.Term-F.Name p) e = absurd (not_name p (e ∙ V.rolls-Name p))
    by_layer (D.Term-F.Call p v) e = ap path_of (e ∙ V.rolls-Call p v)
    by_layer (D.Term-F.Form o v w) e = ap path_of (e ∙ V.rolls-Form o v w)
    by_layer (D.Term-F.Integer n) e = ap path_of (e ∙ V.rolls-Integer n)
    by_layer (D.Term-F.Text text) e = ap path_of (e ∙ V.rolls-Text text)
    by_layer (D.Term-F.Fill bytes named) e = ap path_of (e ∙ V.rolls-Fill bytes named)
    by_layer (D.Term-F.Word word) e = ap path_of (e ∙ V.rolls-Word word)
    by_layer (D.Term-F.Local n) e = ap path_of (e ∙ V.rolls-Local n)
    by_layer (D.Term-F.Arg n) e = ap path_of (e ∙ V.rolls-Arg n)
    by_layer (D.Term-F.Debug) e = ap path_of (e ∙ V.rolls-Debug)
    by_layer (D.Term-F.Omitted) e = ap path_of (e ∙ V.rolls-Omitted)
    by_layer (D.Term-F.Unit p n) e = ap path_of (e ∙ V.rolls-Unit p n)
    by_layer (D.Term-F.Skip n) e = ap path_of (e ∙ V.rolls-Skip n)
    by_layer (D.Term-F.Offset n) e = ap path_of (e ∙ V.rolls-Offset n)
    by_layer (D.Term-F.Access access attribute count) e = ap path_of (e ∙ V.rolls-Access access attribute count)

-- a term that is no name, no call and no form
pub another : (t : Term) → path_of t ≡ None → ((p : Path) (v : Vec Node Global) → t ≡ D.Call p v → ⊥) → ((o : Op) (v w : Vec Node Global) → t ≡ D.Form o v w → ⊥) → term_shape t ≡ Another
another t unnamed not_call not_form = by_layer (D.out-Term t) (sym (D.roll-out-Term t))
  where
    by_layer : (f : D.Term-F Term Node) → t ≡ D.roll-Term f → term_shape t ≡ Another
    by_layer (D.Term-F.Name p) e = absurd (let x = sym (ap path_of (e ∙ V.rolls-Name p)) ∙ unnamed in grind arith)
    by_layer (D.Term-F.Call p v) e = absurd (not_call p v (e ∙ V.rolls-Call p v))
    by_layer (D.Term-F.Form o v w) e = absurd (not_form o v w (e ∙ V.rolls-Form o v w))
    by_layer (D.Term-F.Integer n) e = ap term_shape (e ∙ V.rolls-Integer n)
    by_layer (D.Term-F.Text text) e = ap term_shape (e ∙ V.rolls-Text text)
    by_layer (D.Term-F.Fill bytes named) e = ap term_shape (e ∙ V.rolls-Fill bytes named)
    by_layer (D.Term-F.Word word) e = ap term_shape (e ∙ V.rolls-Word word)
    by_layer (D.Term-F.Local n) e = ap term_shape (e ∙ V.rolls-Local n)
    by_layer (D.Term-F.Arg n) e = ap term_shape (e ∙ V.rolls-Arg n)
    by_layer (D.Term-F.Debug) e = ap term_shape (e ∙ V.rolls-Debug)
    by_layer (D.Term-F.Omitted) e = ap term_shape (e ∙ V.rolls-Omitted)
    by_layer (D.Term-F.Unit p n) e = ap term_shape (e ∙ V.rolls-Unit p n)
    by_layer (D.Term-F.Skip n) e = ap term_shape (e ∙ V.rolls-Skip n)
    by_layer (D.Term-F.Offset n) e = ap term_shape (e ∙ V.rolls-Offset n)
    by_layer (D.Term-F.Access access attribute count) e = ap term_shape (e ∙ V.rolls-Access access attribute count)

module _ (shorten : Bool) (also has : AbsolutePath → Bool) (says : AbsolutePath → ExternalType → ExternalType) (at : At) (scope : AbsolutePath) where
  pub name_spelled : (t : Term) (path new : Path) → t ≡ D.Name path → new ≡ spelled_use also has shorten path scope → tree_of at (D.Name new) ≡ spelled shorten also has says (tree_of at t) scope
  unfolding tree_of
  name_spelled t path new e same = ap (Use at) same ∙ sym (ap (λ t. spelled shorten also has says (tree_of at t) scope) e)

  pub element_named : (t : Term) (path new : Path) (other : Tree) → t ≡ D.Name path → new ≡ spelled_item has shorten path scope → tree_of at (D.Name new) ≡ element_spelled shorten has (tree_of at t) other scope
  unfolding tree_of
  element_named t path new other e same = ap (Use at) same ∙ sym (ap (λ t. element_spelled shorten has (tree_of at t) other scope) e)

  pub element_kept : (t : Term) (path : Path) (other : Tree) → t ≡ D.Name path → path ≡ spelled_item has shorten path scope → tree_of at t ≡ element_spelled shorten has (tree_of at t) other scope
  element_kept t path other e same = ap (tree_of at) e ∙ element_named t path path other e same

  pub call_spelled : (t : Term) (path new : Path) (args more : Vec Node Global) → t ≡ D.Call path args → new ≡ spelled_use also has shorten path scope → trees_of more.items ≡ spelled_all shorten also has says (trees_of args.items) scope → tree_of at (D.Call new more) ≡ spelled shorten also has says (tree_of at t) scope
  call_spelled t path new args more e same spelt =
      call_tree at new more ∙ ap (λ p. Call at p (trees_of more.items)) same ∙ ap (Call at (spelled_use also has shorten path scope)) spelt
      ∙ sym (ap (λ t. spelled shorten also has says (tree_of at t) scope) e ∙ ap (λ t. spelled shorten also has says t scope) (call_tree at path args))

  pub form_spelled : ((path : AbsolutePath) (e : ExternalType) → (says path e).parameters ≡ Some (number_or_zero (says path e).parameters)) → (t : Term) (op : Op) (args body more others : Vec Node Global) → t ≡ D.Form op args body
      → trees_of more.items ≡ part_args shorten also has says (part_of op (trees_of args.items) (trees_of body.items)) (value_form_of op (trees_of args.items) (trees_of body.items)) (trees_of args.items) scope
      → trees_of others.items ≡ part_body shorten also has says (part_of op (trees_of args.items) (trees_of body.items)) (value_form_of op (trees_of args.items) (trees_of body.items)) (trees_of args.items) (trees_of body.items) scope → tree_of at (D.Form op more others) ≡ spelled shorten also has says (tree_of at t) scope
  form_spelled told t op args body more others e spelt inside =
      form_tree at op more others
      ∙ ap (λ ts. form at op ts (trees_of others.items)) spelt
      ∙ ap (form at op (part_args shorten also has says (part_of op (trees_of args.items) (trees_of body.items)) (value_form_of op (trees_of args.items) (trees_of body.items)) (trees_of args.items) scope)) inside
      ∙ sym (ap (λ t. spelled shorten also has says (tree_of at t) scope) e ∙ ap (λ t. spelled shorten also has says t scope) (form_tree at op args body)
      ∙ spelled_form shorten also has says scope told at op (trees_of args.items) (trees_of body.items))

  pub another_spelled : (t : Term) → term_shape t ≡ Another → tree_of at t ≡ spelled shorten also has says (tree_of at t) scope
  unfolding tree_of
  another_spelled (D.Name path) e = absurd (grind arith)
  another_spelled (D.Call' path shape args) e = absurd (grind arith)
  another_spelled (D.Form' op shape args shape' body) e = absurd (grind arith)
  another_spelled t e = refl

  no_use : (t other : Tree) → used_name t ≡ None → element_spelled shorten has t other scope ≡ other
  no_use (Use at name) other e = absurd (grind arith)
  no_use t other e = refl

  pub element_unnamed : (t : Term) (other : Tree) → path_of t ≡ None → element_spelled shorten has (tree_of at t) other scope ≡ other
  element_unnamed t other e = no_use (tree_of at t) other (used at t ∙ e)
