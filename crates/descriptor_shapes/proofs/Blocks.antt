-- The terms of a block with those that declare its descriptors, in which fields are constants: these can be taken out again, and what is left
-- are the block's own terms, in which fields are constants. What is told of names stands where the block's terms and its descriptors stand;
-- where no descriptor has a name it is what is told without descriptors; where nothing is told, nothing is wrong with the terms that are left.
use Rattle.std.proofs.Common.{◌<◌, Bool, true, false, List, [], ◌∷◌, ◌++◌, arith, ℕ, suc, ◌+◌, Option, Some, None, ◌≡◌, refl, sym, subst, ap, ◌∙◌, get_or}
use Rattle.std.specs.Prelude.{if◌then◌else◌, filter, ◌||◌, ◌%◌, nat_eq, not, ◌&&◌, map, Option, is_some}
use Rattle.std.specs.List.{All, AllByRecursion}
use Rattle.std.proofs.lemmas.List.Elements.{All-filter, All-from_recursion, recursion_from_All}
use Rattle.std.proofs.lemmas.Bool.{or_parts}
use Rattle.std.proofs.lemmas.List.{append-nil}
use Rattle.iasl_messages.specs.declared.place.Place.{Place}
use Rattle.iasl_messages.specs.declared.message.Message.{Message}
use Rattle.acpi_values.specs.Paths.{AbsolutePath}
use Rattle.acpi_values.specs.Operators.{Letter, Used, row_of}
use Rattle.acpi_state.specs.FieldActs.{region_letters, field_letters}
use Rattle.acpi_state.specs.Outcomes.{choose}
use Rattle.acpi_state.specs.Objects.{lookup}
use Rattle.asl_tree.specs.declared.path.Path.{Path}
use Rattle.asl_tree.specs.declared.term.NamedDescriptor.{NamedDescriptor}
use Rattle.asl_tree.specs.FieldItems.{FieldItem, UnitItem, ConnectionItem, ToName}
use Rattle.asl_tree.specs.Names.{declared_path}
use Rattle.asl_tree.specs.Tree.{Tree, Use, Call, Apply, Buffer, Package, VarPackage, CondRefOf, Return, Name, Alias, External, Method, Mutex, Event, Container', Scope, Trees, no_trees, tree, OperationRegion, Field, IndexField, BankField, CreateField, UnitName, If, ElseIf, Else, While, Operated, Assigned, AssignedBy, Switch, Case, Default, For, Print, At, Fill}
use Rattle.asl_tree.specs.declared.term.Op.{Op}
use Rattle.asl_tree.specs.declared.term.Declaration.TheVariants as Declaration
use Rattle.asl_tree.specs.View.{form}
use Rattle.asl_meaning.specs.Declarations.{Declarations, scope_path, declare, nothing_declared, declarations as all_declared}
use Rattle.acpi_names.specs.Errors.{Asked, Anything, NameError, AValue, unless, Whole, whole_of, name_errors, type_errors}
use Rattle.acpi_names.specs.Mentions.{Mention, Used', Sought, Called, Declares, Outside, Opens, is_spot, is_use, asks, asked_use, letter_mention, cond_place, mentions, mentions_all, operand_mentions, target_mentions, element_mentions, item_mentions, term_mentions, block_mentions, after, mention_errors, all_errors, mention_types, all_types}
use Rattle.acpi_names.specs.Terms.{are_terms}
use Rattle.acpi_names.proofs.MentionErrors.{block_errors}
use Rattle.acpi_names.proofs.MentionTypes.{block_types}
use Rattle.acpi_names.specs.Parts.{Agrees}
use Rattle.acpi_names.specs.Tables.{Tabled}
use Rattle.asl_numbers.specs.Numbers.{inside, nodes, numbered_all, numbered}
use Rattle.term_plans.specs.Plans.{Plan, a_fill, a_name, a_call, a_form, Plans, no_plans, plan, join, plan_at, a_unit}
use Rattle.term_plans.specs.Plans.{named_of}
use Rattle.term_plans.proofs.Lists.{join_assoc}
use Rattle.name_checks.specs.Messages.{message_of}
use Rattle.name_checks.proofs.Blocks.{none_wrong}
use Rattle.descriptor_fields.specs.Declaring.{has_terms, names_inside, names_among, declarations, alone, beside, opened, declaring, declared_by, unless_declared, closed, stripped, is_first, names_descriptor, names_descriptors, declaration, is_naming}
use Rattle.descriptor_fields.specs.Values.{Among, Arguments, Contents, OfCall, is_value_in, is_in_bits}
use Rattle.descriptor_fields.specs.Constants.{resolved_use, broken_use, resolved, resolved_from, broken, broken_from}
use Rattle.descriptor_fields.specs.Nodes.{at_node, named_in, named_from}
use Rattle.descriptor_checks.specs.Resolved.{fields_of, checked_terms, broken_fields, resolved_terms, mentions_of, table_of, described, names_of, described_paths, fields_in}
use Rattle.descriptor_checks.specs.Told.{fault_of, field_errors, below_errors, all_below, is_no_field, is_of_no_descriptor, all_field_errors, all_use_faults, names_told, kinds_told, names_wrong, fields_wrong, kinds_wrong, owners_of, sense_in, use_faults, field_owners, checked_trees}
use Rattle.descriptor_checks.specs.Senses.{Nothing}
use Rattle.named_sessions.specs.Places.{IsIn, IsWithin, AreWithin, AreItemsWithin}
use Rattle.named_sessions.specs.Shaped.{AreNamed}
use Rattle.named_sessions.proofs.Terms.{formed_terms}
use Rattle.unused_names.proofs.Errors.{left_none, right_none}
use Rattle.unused_names.specs.Left.{DescriptorsAreApart}
use Rattle.unused_names.specs.Bare.{nowhere}
use Rattle.stripped_names.proofs.Apart.{untold_apart}
use Rattle.stripped_names.proofs.Forgotten.{forgotten_index}
use Rattle.stripped_names.proofs.Right.{terms_stripped, stripped_names, stripped_kinds, stripped_calls}
use Rattle.stripped_names.specs.Whole.{AreWhole, IsShaped, Describes, Where, IsWhole}
use Rattle.stripped_names.proofs.Numbered.{shaped_at}
use Rattle.descriptor_shapes.specs.Places.{NamesWithin, PlanWithin, PlansWithin}
use Rattle.descriptor_shapes.proofs.Forms.{IsProgram, IsTerm, AreTerms, Terms, first_term, Serves, same, counted_use, called, LikeFrom, NoneFrom, MoreFrom, lists, all_same, form_like}

-- ---- the second of two plans is the first one, but that names that are expressions may be words: so its tree serves as the other one's

record Resolves (value : Bool) (p q : Plan) : Type 0 where
  size : inside q ≡ inside p
  serves : (at : At) (next : ℕ) → Serves value (numbered at next p) (numbered at next q)

-- those of a list from the one with this number on
record AllResolve (among : Among) (n : ℕ) (ps qs : Plans) : Type 0 where
  sizes : nodes qs ≡ nodes ps
  serve : (next : ℕ) → LikeFrom (is_value_in among) n (numbered_all next ps) (numbered_all next qs)

stays : {value : Bool} (p : Plan) → Resolves value p p
stays p = record { size = refl; serves = λ at next. same (numbered at next p) }

in_form : {value : Bool} (op : Op) {args others body more : Plans} → AllResolve (Arguments op) 0 args others → AllResolve (Contents op) 0 body more → Resolves value (a_form op args body) (a_form op others more)
unfolding numbered
in_form op {args = args} given body = record { size = rw (given.sizes, body.sizes) refl; serves = λ at next. rw given.sizes (form_like at op (given.serve next) (body.serve (next + nodes args))).0 }

more_resolve : {among : Among} {n : ℕ} {place : Place} {p q : Plan} {ps qs : Plans} → Resolves (is_value_in among n) p q → AllResolve among (suc n) ps qs → AllResolve among n (plan place p ps) (plan place q qs)
unfolding numbered_all
more_resolve {place = place} {p = p} first rest = record {
  sizes = rw (first.size, rest.sizes) refl;
  serve = λ next. MoreFrom _ (first.serves (record { id = next; place = place }) (suc next)) (rw first.size (rest.serve (suc (next + inside p))));
}

use_resolves : (bits value : Bool) (name : Path) (field : Option ℕ) → Resolves value (a_name name) (resolved_use bits value name field)
unfolding numbered
use_resolves bits true name (Some bit) = record { size = refl; serves = λ at next. counted_use at name _ }
use_resolves bits _ name _ = stays (a_name name)

-- plans in which fields are constants
module _ (fields : List (ℕ × ℕ)) where
  mutual
    unfolding numbered numbered_all

    resolves : (bits value : Bool) (node : ℕ) (p : Plan) → Resolves value p (resolved fields bits value node p)
    resolves bits value node (a_name name) = use_resolves bits value name (at_node fields node)
    resolves bits value node (a_call name args) = let k = all_resolve OfCall 0 bits (suc node) args in record { size = k.sizes; serves = λ at next. called at name (k.serve next) }
    resolves bits value node (a_form op args body) = in_form op (all_resolve (Arguments op) 0 bits (suc node) args) (all_resolve (Contents op) 0 bits (suc node + nodes args) body)
    resolves bits value node p = stays p

    all_resolve : (among : Among) (n : ℕ) (bits : Bool) (node : ℕ) (ps : Plans) → AllResolve among n ps (resolved_from fields among n bits node ps)
    all_resolve among n bits node no_plans = record { sizes = refl; serve = λ next. NoneFrom }
    all_resolve among n bits node (plan place p ps) = more_resolve (resolves (bits || is_in_bits among n) (is_value_in among n) node p) (all_resolve among (suc n) bits (suc (node + inside p)) ps)

-- ---- where the trees stand

module _ (files : ℕ) where
  mutual
    unfolding numbered numbered_all

    within : (at : At) (next : ℕ) (p : Plan) → IsIn files at → PlanWithin files p → IsWithin files (numbered at next p)
    within at next (a_name name) h k = h
    within at next (a_unit segment bits) h k = h
    within at next (a_call name args) h k = (h, numbered_within next args k)
    within at next (a_form op args body) h k = (form_like {p = true} at op (all_same (numbered_all next args)) (all_same (numbered_all (next + nodes args) body))).1 files (h, numbered_within next args k.0, numbered_within (next + nodes args) body k.1)
    within at next _ h k = tt

    pub numbered_within : (next : ℕ) (ps : Plans) → PlansWithin files ps → AreWithin files (numbered_all next ps)
    numbered_within next no_plans h = tt
    numbered_within next (plan place p ps) h = (within (record { id = next; place = place }) (suc next) p h.0 h.1, numbered_within (suc (next + inside p)) ps h.2)

-- no value of a Name is bytes
no_bytes : (here : At) (t : Tree) (bytes : List ℕ) (ts bs : Trees) → IsTerm (form here (Op.Declaration Declaration.Name) (tree t (tree (Fill bytes) ts)) bs) → ⊥
no_bytes here (Use at name) bytes no_trees no_trees h = cc h.1
no_bytes here _ bytes _ _ h = h

-- ---- what terms come to

-- a term declares nothing, is one of the program's with its body closed again, and can be taken apart
abbrev Comes : Bool → Plan → Plan → Type 0
Comes value p q = (declared_by q ≡ []) × Resolves value p (closed q) × IsWhole q

abbrev AllCome : Among → ℕ → Plans → Plans → Type 0
AllCome among n ps qs = AllResolve among n ps (stripped qs) × AreWhole qs

use_comes : (bits value : Bool) (name : Path) (field : Option ℕ) → let q = resolved_use bits value name field in Comes value (a_name name) q × ((named_of q ≡ []) × Describes q)
use_comes bits true name (Some bit) = ((refl, use_resolves bits true name (Some bit), tt), (refl, tt))
use_comes bits _ name _ = ((refl, stays (a_name name), tt), (refl, tt))

module _ (fields : List (ℕ × ℕ)) where
  -- no term of the program declares a descriptor, and no value of a Name is bytes
  none_declared : (op : Op) (args more : Plans) (at : At) (next : ℕ) (bs : Trees) (bits : Bool) (node : ℕ) → IsTerm (form at op (numbered_all next args) bs)
      → let others = resolved_from fields (Arguments op) 0 bits node args in (declared_by (a_form op others more) ≡ []) × Where (is_naming op) (Describes (plan_at others 1))
  unfolding numbered numbered_all
  none_declared (Op.Declaration Declaration.Name) (plan place p (plan there (a_fill bytes named) ps)) more at next bs bits node h = absurd (no_bytes at _ bytes _ bs h)
  none_declared (Op.Declaration Declaration.Name) (plan place p (plan there (a_name name) ps)) more at next bs bits node h = (use_comes (bits || false) true name (at_node fields (suc (node + inside p)))).1
  none_declared _ args more at next bs bits node h = (refl, tt)

  module _ (among : Among) (values : (k : ℕ) → is_value_in among k ≡ true) (bits : Bool) where
    abbrev TermComes : Plan → Plan → Type 0
    TermComes p q = (n node : ℕ) → Comes (is_value_in among n) p (resolved fields (bits || is_in_bits among n) (is_value_in among n) node q)

    abbrev Come : ℕ → Plans → Plans → Type 0
    Come i ps qs = (n node : ℕ) → AllCome among i ps (resolved_from fields among n bits node qs)

    names_come : (names : List NamedDescriptor) (i : ℕ) (ps qs : Plans) → Come i ps qs → Come i ps (join (declarations names) qs)
    unfolding numbered numbered_all
    names_come [] i ps qs go n node = go n node
    names_come (named ∷ names) i ps qs go n node = let k = names_come names i ps qs go (suc n) (suc (node + inside (declaration named))) in (k.0, ((tt, (tt, tt)), k.1))

    term_comes : (i : ℕ) (place : Place) (p q : Plan) (ps qs : Plans) → TermComes p q → Come (suc i) ps qs → Come i (plan place p ps) (plan place q qs)
    term_comes i place p q ps qs term rest n node =
        let here : Plan = resolved fields (bits || is_in_bits among n) (is_value_in among n) node q in
        let h : Comes (is_value_in among n) p here = term n node in
        let k : AllCome among (suc i) ps (resolved_from fields among (suc n) bits (suc (node + inside q)) qs) = rest (suc n) (suc (node + inside q)) in
        (rw h.0 (more_resolve (subst (λ value. Resolves value p (closed here)) (values n ∙ sym (values i)) h.1) k.0), (h.2, k.1))

    beside_come : (b : Bool) (names : List NamedDescriptor) (i : ℕ) (place : Place) (p q : Plan) (ps qs : Plans) → TermComes p q → Come (suc i) ps qs → Come i (plan place p ps) (join (beside b (declarations names) (alone place q)) qs)
    beside_come true names i place p q ps qs term rest = term_comes i place p q ps (join (declarations names) qs) term (names_come names (suc i) ps qs rest)
    beside_come false names i place p q ps qs term rest = rw (join_assoc (declarations names) (alone place q) qs) (names_come names i (plan place p ps) (plan place q qs) (term_comes i place p q ps qs term rest))

  -- a form, by whether terms stand in its body
  module _ (bits value : Bool) (node : ℕ) (op : Op) (args body : Plans) (at : At) (next : ℕ) (h : IsTerm (numbered at next (a_form op args body))) where
    abbrev others : Plans
    others = resolved_from fields (Arguments op) 0 bits (suc node) args

    abbrev more : Plans → Plans
    more ps = resolved_from fields (Contents op) 0 bits (suc node + nodes args) ps

    given : AllResolve (Arguments op) 0 args others
    given = all_resolve fields (Arguments op) 0 bits (suc node) args

    empty : (ps : Plans) (n m : ℕ) → numbered_all n ps ≡ no_trees → numbered_all m (more (declaring ps)) ≡ no_trees
    unfolding numbered_all
    empty no_plans n m e = refl
    empty (plan place p ps) n m e = absurd cc

    form_comes : (b : Bool) → has_terms op ≡ b → (((k : ℕ) → is_value_in (Contents op) k ≡ true) → AreTerms (numbered_all (next + nodes args) body) → AllCome (Contents op) 0 body (more (declaring body)))
        → Resolves value (a_form op args body) (a_form op others (if b then stripped (more (if b then declaring body else body)) else more (if b then declaring body else body)))
        × IsShaped (numbered nowhere 0 (a_form op others (more (if b then declaring body else body)))) × Where b (AreWhole (more (if b then declaring body else body)))
    unfolding numbered
    form_comes true e go =
        let k = (form_like {p = true} at op (given.serve next) (all_same (numbered_all (next + nodes args) body))).2 (numbered_all (next + nodes others) (more (declaring body))) e (empty body (next + nodes args) (next + nodes others)) h in
        let inner : AllCome (Contents op) 0 body (more (declaring body)) = go (λ k. grind arith) k.0 in
        (in_form op given inner.0, shaped_at (a_form op others (more (declaring body))) at nowhere next 0 k.1, inner.1)
    form_comes false e go =
        let same : Resolves value (a_form op args body) (a_form op others (more body)) = in_form op given (all_resolve fields (Contents op) 0 bits (suc node + nodes args) body) in
        (same, shaped_at (a_form op others (more body)) at nowhere next 0 ((same.serves at next).shaped h), tt)

  mutual
    unfolding numbered numbered_all

    comes : (bits value : Bool) (node : ℕ) (p : Plan) (at : At) (next : ℕ) → IsTerm (numbered at next p) → Comes value p (resolved fields bits value node (opened p))
    comes bits value node (a_name name) at next h = (use_comes bits value name (at_node fields node)).0
    comes bits value node (a_call name args) at next h = (refl, resolves fields bits value node (a_call name args), tt)
    comes bits value node (a_form op args body) at next h =
        let f = form_comes bits value node op args body at next h (has_terms op) refl
        (λ values k. all_come (Contents op) values bits 0 0 (suc node + nodes args) body (next + nodes args) k) in
        let none = none_declared op args (resolved_from fields (Contents op) 0 bits (suc node + nodes args) (if has_terms op then declaring body else body)) at next (numbered_all (next + nodes args) body) bits (suc node) h in
        (none.0, f.0, (f.1, (none.1, f.2)))
    comes bits value node p at next h = (refl, stays p, tt)

    all_come : (among : Among) → ((k : ℕ) → is_value_in among k ≡ true) → (bits : Bool) (i n node : ℕ) (ps : Plans) (next : ℕ) → AreTerms (numbered_all next ps) → AllCome among i ps (resolved_from fields among n bits node (declaring ps))
    all_come among values bits i n node no_plans next h = (record { sizes = refl; serve = λ next. NoneFrom }, tt)
    all_come among values bits i n node (plan place p ps) next h =
        let here : At = record { id = next; place = place } in
        let k = first_term (numbered here (suc next) p) (numbered_all (suc (next + inside p)) ps) h in
        beside_come among values bits (is_first p) (names_inside p) i place p (opened p) ps (declaring ps)
        (λ m other. comes (bits || is_in_bits among m) (is_value_in among m) other p here (suc next) k.0)
        (λ m other. all_come among values bits (suc i) m other ps (suc (next + inside p)) k.1) n node

-- ---- the block

module _ (next : ℕ) (ps : Plans) (h : IsProgram (numbered_all next ps)) where
  come : AllCome OfCall 0 ps (checked_terms ps)
  come = all_come (fields_of (declaring ps)) OfCall (λ k. refl) false 0 0 0 ps next (Terms h)

  -- a formed program is formed where fields of descriptors are constants
  pub resolved_formed : IsProgram (numbered_all next (resolved_terms ps))
  resolved_formed = (lists (come.0.serve next)).program h

  -- and its terms with those that declare descriptors can be taken apart again
  pub checked_whole : AreWhole (checked_terms ps)
  checked_whole = come.1

-- ---- lists

either : {A : Type 0} (P : A → Type 0) (b : Bool) (x y : A) → P x → P y → P (if b then x else y)
either P true x y h k = h
either P false x y h k = k

both : {A : Type 0} (P : A → Type 0) (xs ys : List A) → AllByRecursion P xs → AllByRecursion P ys → AllByRecursion P (xs ++ ys)
both P [] ys h k = k
both P (x ∷ xs) ys h k = (h.0, both P xs ys h.1 k)

-- ---- where terms stand

module _ (files : ℕ) where
  abbrev pub IsTold : Message → Type 0
  IsTold m = m.place.file < files

  both_plans : (ps qs : Plans) → PlansWithin files ps → PlansWithin files qs → PlansWithin files (join ps qs)
  both_plans no_plans qs h k = k
  both_plans (plan place p ps) qs h k = (h.0, h.1, both_plans ps qs h.2 k)

  declarations_within : (ns : List NamedDescriptor) → NamesWithin files ns → PlansWithin files (declarations ns)
  declarations_within [] h = tt
  declarations_within (named ∷ ns) h = (h.0, ((h.0, tt, (h.0, (h.0, tt), tt)), tt), declarations_within ns h.1)

  kept_within : (ns : List NamedDescriptor) (term ps : Plans) → PlansWithin files term → PlansWithin files ps → PlansWithin files (join (unless_declared ns term) ps)
  kept_within [] term ps h k = both_plans term ps h k
  kept_within (named ∷ ns) term ps h k = k

  -- the descriptors in terms, the terms with those that declare them, and without these
  mutual
    parts_within : (p : Plan) → PlanWithin files p → NamesWithin files (names_inside p) × PlanWithin files (opened p) × PlanWithin files (closed p)
    parts_within (a_fill bytes named) h = (h, h, h)
    parts_within (a_call name args) h = ((all_within args h).0, h, h)
    parts_within (a_form op args body) h =
        let k = all_within body h.1 in
        (both (λ (named : NamedDescriptor). named.place.file < files) _ _ (all_within args h.0).0 (either (NamesWithin files) (has_terms op) [] (names_among body) tt k.0), (h.0, either (PlansWithin files) (has_terms op) (declaring body) body k.1 h.1), (h.0, either (PlansWithin files) (has_terms op) (stripped body) body k.2 h.1))
    parts_within _ h = (tt, tt, tt)

    all_within : (ps : Plans) → PlansWithin files ps → NamesWithin files (names_among ps) × PlansWithin files (declaring ps) × PlansWithin files (stripped ps)
    all_within no_plans h = (tt, tt, tt)
    all_within (plan place p ps) h =
        let k = parts_within p h.1 in
        let l = all_within ps h.2 in
        let ns : Plans = declarations (names_inside p) in
        let term : Plans = alone place (opened p) in
        let t : PlansWithin files term = (h.0, k.1, tt) in
        let n : PlansWithin files ns = declarations_within (names_inside p) k.0 in (
          both (λ (named : NamedDescriptor). named.place.file < files) _ _ k.0 l.0,
          both_plans (beside (is_first p) ns term) (declaring ps) (either (PlansWithin files) (is_first p) (join term ns) (join ns term) (both_plans term ns t n) (both_plans ns term n t)) l.1,
          kept_within (declared_by p) (alone place (closed p)) (stripped ps) (h.0, k.2, tt) l.2,
        )

  -- fields that are constants, and what is told of them
  use_within : (bits value : Bool) (name : Path) (place : Place) (field : Option ℕ) → place.file < files → PlanWithin files (resolved_use bits value name field) × AllByRecursion IsTold (broken_use bits value place field)
  use_within bits true name place (Some bit) h = (tt, either (AllByRecursion IsTold) (bits || nat_eq (bit % 8) 0) [] _ tt (h, tt))
  use_within bits _ name place _ h = (tt, tt)

  module _ (fields : List (ℕ × ℕ)) where
    mutual
      term_within : (bits value : Bool) (place : Place) (node : ℕ) (p : Plan) → place.file < files → PlanWithin files p → PlanWithin files (resolved fields bits value node p) × AllByRecursion IsTold (broken fields bits value place node p)
      term_within bits value place node (a_name name) h k = use_within bits value name place (at_node fields node) h
      term_within bits value place node (a_call name args) h k = terms_within OfCall 0 bits (suc node) args k
      term_within bits value place node (a_form op args body) h k =
          let a = terms_within (Arguments op) 0 bits (suc node) args k.0 in
          let b = terms_within (Contents op) 0 bits (suc node + nodes args) body k.1 in ((a.0, b.0), both IsTold _ _ a.1 b.1)
      term_within bits value place node _ h k = search

      terms_within : (among : Among) (n : ℕ) (bits : Bool) (node : ℕ) (ps : Plans) → PlansWithin files ps → PlansWithin files (resolved_from fields among n bits node ps) × AllByRecursion IsTold (broken_from fields among n bits node ps)
      terms_within among n bits node no_plans h = (tt, tt)
      terms_within among n bits node (plan place p ps) h =
          let a = term_within (bits || is_in_bits among n) (is_value_in among n) place node p h.0 h.1 in
          let b = terms_within among (suc n) bits (suc (node + inside p)) ps h.2 in ((h.0, a.0, b.0), both IsTold _ _ a.1 b.1)

  -- the terms that are checked, and what is told of fields that begin with no byte
  checked_parts : (ps : Plans) → PlansWithin files ps → PlansWithin files (checked_terms ps) × AllByRecursion IsTold (broken_fields ps)
  checked_parts ps h = terms_within (fields_of (declaring ps)) OfCall 0 false 0 (declaring ps) (all_within ps h).1

  pub checked_within : (ps : Plans) → PlansWithin files ps → PlansWithin files (checked_terms ps)
  checked_within ps h = (checked_parts ps h).0

  pub resolved_within : (ps : Plans) → PlansWithin files ps → PlansWithin files (resolved_terms ps)
  resolved_within ps h = (all_within (checked_terms ps) (checked_within ps h)).2

  -- ---- where mentions stand

  -- a mention stands in one of the files
  abbrev pub IsMentionedIn : Mention → Type 0
  IsMentionedIn (Used' asked at name scope) = IsIn files at
  IsMentionedIn (Sought at name scope) = IsIn files at
  IsMentionedIn (Called asked at name args scope) = IsIn files at
  IsMentionedIn (Declares at name as' scope) = IsIn files at
  IsMentionedIn (Outside here at name type scope) = IsIn files here × IsIn files at
  IsMentionedIn (Opens here at name scope inner) = IsIn files here × IsIn files at

  abbrev pub AreMentionedIn : List Mention → Type 0
  AreMentionedIn = AllByRecursion IsMentionedIn

  sought_in : (t : Tree) (ms : List Mention) (scope : AbsolutePath) → IsWithin files t → AreMentionedIn ms → AreMentionedIn (cond_place t ms scope)
  sought_in (Use at name) ms scope h k = (h, tt)
  sought_in t ms scope h k = k

  letter_in : (letter : Letter) (uses : Asked) (t : Tree) (ms : List Mention) (scope : AbsolutePath) → IsWithin files t → AreMentionedIn ms → AreMentionedIn (letter_mention letter uses t ms scope)
  letter_in Used uses (Use at name) ms scope h k = (h, tt)
  letter_in letter uses t ms scope h k = k

  mutual
    value_in : (asked : Bool) (t : Tree) (scope : AbsolutePath) → IsWithin files t → AreMentionedIn (mentions asked t scope)
    value_in asked (Use at name) scope h = (h, tt)
    value_in asked (Call at name args) scope h = (h.0, (trees_in asked args scope h.1).0)
    value_in asked (Apply op args targets) scope h = both IsMentionedIn _ _ (operands_in asked (asked_use asked op) (row_of op).operands args scope h.0) (trees_in asked targets scope h.1).1
    value_in asked (Operated op args) scope h = operands_in asked (asked_use asked op) (row_of op).operands args scope h
    value_in asked (Assigned target value) scope h = both IsMentionedIn _ _ (value_in asked value scope h.1) (value_in (asked && is_spot target) target scope h.0)
    value_in asked (AssignedBy op target value) scope h = both IsMentionedIn _ _ (value_in asked target scope h.0) (value_in asked value scope h.1)
    value_in asked (Buffer size bytes) scope h = value_in asked size scope h
    value_in asked (Package n elements) scope h = (trees_in asked elements scope h).2
    value_in asked (VarPackage size elements) scope h = both IsMentionedIn _ _ (value_in asked size scope h.0) (trees_in asked elements scope h.1).2
    value_in asked (CondRefOf place target) scope h = both IsMentionedIn _ _ (sought_in place _ scope h.0 (value_in (asked && is_spot place) place scope h.0)) (value_in (asked && is_spot target) target scope h.1)
    value_in asked _ scope h = tt

    -- arguments, targets and elements
    trees_in : (asked : Bool) (ts : Trees) (scope : AbsolutePath) → AreWithin files ts → AreMentionedIn (mentions_all asked ts scope) × AreMentionedIn (target_mentions asked ts scope) × AreMentionedIn (element_mentions asked ts scope)
    trees_in asked no_trees scope h = (tt, tt, tt)
    trees_in asked (tree t ts) scope h =
        let k = trees_in asked ts scope h.1 in
        search (both IsMentionedIn, value_in asked t scope h.0, value_in (asked && is_spot t) t scope h.0, value_in (asked && not (is_use t)) t scope h.0)

    operands_in : (asked : Bool) (uses : Asked) (letters : List Letter) (ts : Trees) (scope : AbsolutePath) → AreWithin files ts → AreMentionedIn (operand_mentions asked uses letters ts scope)
    operands_in asked uses letters no_trees scope h = tt
    operands_in asked uses [] (tree t ts) scope h = both IsMentionedIn _ _ (value_in false t scope h.0) (operands_in asked uses [] ts scope h.1)
    operands_in asked uses (letter ∷ letters) (tree t ts) scope h = both IsMentionedIn _ _ (letter_in letter uses t _ scope h.0 (value_in (asked && asks letter t) t scope h.0)) (operands_in asked uses letters ts scope h.1)

  units_in : (items : List (FieldItem UnitName)) (scope : AbsolutePath) → AreItemsWithin files items → AreMentionedIn (item_mentions items scope)
  units_in [] scope h = tt
  units_in (UnitItem name bits ∷ items) scope h = (h.0, units_in items scope h.1)
  units_in (ConnectionItem (ToName at name) ∷ items) scope h = (h.0, units_in items scope h.1)
  units_in (_ ∷ items) scope h = units_in items scope h.1

  mutual
    term_in : (t : Tree) (scope : AbsolutePath) (d : Declarations) → IsWithin files t → AreMentionedIn (term_mentions t scope d)
    term_in (Name at name value) scope d h = (h.0, value_in true value scope h.1)
    term_in (Alias from source at name) scope d h = (h.0, (h.1, tt))
    term_in (External here at name type parameters) scope d h = (h, tt)
    term_in (Method at name flags body) scope d h = (h.0, block_in body (declared_path name scope) _ h.1)
    term_in (Mutex at name level) scope d h = (h, tt)
    term_in (Event at name) scope d h = (h, tt)
    term_in (Container' kind at name body) scope d h = (h.0, block_in body (declared_path name scope) _ h.1)
    term_in (Scope here at name body) scope d h = ((h.0, h.1), block_in body (scope_path d name scope) d h.2)
    term_in (If test body) scope d h = both IsMentionedIn _ _ (value_in true test scope h.0) (block_in body scope d h.1)
    term_in (ElseIf test body) scope d h = both IsMentionedIn _ _ (value_in true test scope h.0) (block_in body scope d h.1)
    term_in (Else body) scope d h = block_in body scope d h
    term_in (While test body) scope d h = both IsMentionedIn _ _ (value_in true test scope h.0) (block_in body scope d h.1)
    term_in (For start test step body) scope d h = both IsMentionedIn _ _ (value_in true start scope h.0) (both IsMentionedIn _ _ (value_in true test scope h.1) (both IsMentionedIn _ _ (value_in true step scope h.2) (block_in body scope d h.3)))
    term_in (Print place format args) scope d h = both IsMentionedIn _ _ (value_in (is_spot place) place scope h.0) (trees_in true args scope h.1).0
    term_in (Switch value cases) scope d h = both IsMentionedIn _ _ (value_in true value scope h.0) (block_in cases scope d h.1)
    term_in (Case value body) scope d h = both IsMentionedIn _ _ (value_in true value scope h.0) (block_in body scope d h.1)
    term_in (Default body) scope d h = block_in body scope d h
    term_in (OperationRegion at name space args) scope d h = (h.0, operands_in true Anything region_letters args scope h.1)
    term_in (Field here from region flags items) scope d h = (h.1, units_in items scope h.2)
    term_in (IndexField here from index to register flags items) scope d h = (h.1, (h.2, units_in items scope h.3))
    term_in (BankField here from region to bank value flags items) scope d h = (h.1, (h.2, both IsMentionedIn _ _ (value_in true value scope h.3) (units_in items scope h.4)))
    term_in (CreateField form args at name) scope d h = both IsMentionedIn _ _ (operands_in true Anything (field_letters form) args scope h.0) (h.1, tt)
    -- the value of a Return, and an expression
    term_in (Return value) scope d h = value_in true value scope h
    term_in t scope d h = value_in true t scope h

    pub block_in : (ts : Trees) (scope : AbsolutePath) (d : Declarations) → AreWithin files ts → AreMentionedIn (block_mentions ts scope d)
    block_in no_trees scope d h = tt
    block_in (tree t ts) scope d h = both IsMentionedIn _ _ (term_in t scope d h.0) (block_in ts scope (declare t scope d) h.1)

  -- ---- where what is told of them stands

  abbrev AreErrorsIn : List NameError → Type 0
  AreErrorsIn = AllByRecursion (λ (e : NameError). IsTold (message_of e))

  errors : (xs ys : List NameError) → AreErrorsIn xs → AreErrorsIn ys → AreErrorsIn (xs ++ ys)
  errors = both (λ (e : NameError). IsTold (message_of e))

  unless_in : (b : Bool) (e : NameError) → IsTold (message_of e) → AreErrorsIn (unless b e)
  unless_in true e h = tt
  unless_in false e h = (h, tt)

  choose_in : {A : Type 0} (o : Option A) (f : A → List NameError) → ((a : A) → AreErrorsIn (f a)) → AreErrorsIn (choose o [] f)
  choose_in None f h = tt
  choose_in (Some a) f h = h a

  ruleset rules = (errors, unless_in, choose_in)

  messages_in : (es : List NameError) → AreErrorsIn es → AllByRecursion IsTold (map message_of es)
  messages_in [] h = tt
  messages_in (e ∷ es) h = (h.0, messages_in es h.1)

  kept_in : (test : Mention → Bool) (ms : List Mention) → AreMentionedIn ms → AreMentionedIn (filter test ms)
  kept_in test ms h = recursion_from_All IsMentionedIn _ (All-filter test IsMentionedIn ms (All-from_recursion IsMentionedIn ms h))

  module _ (whole : Whole) (has : AbsolutePath → Bool) (look : AbsolutePath → Option NamedDescriptor) where
    told_in : (m : Mention) (d : Declarations) → IsMentionedIn m → AreErrorsIn (mention_errors whole m d) × AreErrorsIn (mention_types whole m) × AreErrorsIn (field_errors m) × AllByRecursion IsTold (fault_of m) × AreErrorsIn (below_errors look m)
    told_in (Used' AValue at name scope) d h = search (rules, either AreErrorsIn) depth 8
    told_in (Called true at name args scope) d h = search (rules, either AreErrorsIn) depth 8
    told_in _ d h = search (rules, either AreErrorsIn) depth 8

    all_told : (ms : List Mention) (d : Declarations) → AreMentionedIn ms → AreErrorsIn (all_errors whole ms d) × AreErrorsIn (all_types whole ms) × AreErrorsIn (all_field_errors has look ms) × AllByRecursion IsTold (all_use_faults has look ms) × AreErrorsIn (all_below look ms)
    all_told [] d h = (tt, tt, tt, tt, tt)
    all_told (m ∷ ms) d h =
        let a = told_in m d h.0 in
        let k = all_told ms (after m d) h.1 in
        (errors _ _ a.0 k.0, errors _ _ a.1 k.1, errors _ _ (either AreErrorsIn (is_no_field has look m) [] _ tt a.2) k.2, both IsTold _ _ (either (AllByRecursion IsTold) (is_of_no_descriptor has look m) [] _ tt a.3) k.3, errors _ _ a.4 k.4)

  plans_told : (ps : Plans) → PlansWithin files ps → AreErrorsIn (names_wrong ps) × AreErrorsIn (fields_wrong ps) × AllByRecursion IsTold (kinds_wrong ps)
  plans_told ps h =
      let h' = block_in (numbered_all 0 ps) [] nothing_declared (numbered_within files 0 ps h) in
      let told = all_told (whole_of (numbered_all 0 ps)) (names_of ps) (table_of ps) in
      let k = told (mentions_of ps) nothing_declared h' in (
        errors _ _ (told (filter (is_no_field (names_of ps) (table_of ps)) (mentions_of ps)) nothing_declared (kept_in _ _ h')).0 k.4,
        k.2,
        both IsTold _ _ (messages_in _ (told (filter (is_of_no_descriptor (names_of ps) (table_of ps)) (mentions_of ps)) nothing_declared (kept_in _ _ h')).1) k.3,
      )

  module _ (ps : Plans) (h : PlansWithin files ps) where
    pub names_told_within : All IsTold (names_told ps)
    names_told_within = All-from_recursion IsTold (names_told ps) (messages_in _ (errors _ _ (plans_told (checked_terms ps) (checked_within ps h)).0 (plans_told (declaring ps) (all_within ps h).1).1))

    pub kinds_told_within : All IsTold (kinds_told ps)
    kinds_told_within = All-from_recursion IsTold (kinds_told ps) (both IsTold _ _ (plans_told (checked_terms ps) (checked_within ps h)).2 (checked_parts ps h).1)

-- ---- mentions of none

module _ (has : AbsolutePath → Bool) (look : AbsolutePath → Option NamedDescriptor) where
  abbrev pub IsOfNone : Mention → Type 0
  IsOfNone m = sense_in has look m ≡ Nothing

  -- all are kept where fields or descriptors are left out, and nothing is told of them
  pub record AreNothing (ms : List Mention) : Type 0 where
    pub no_fields : filter (is_no_field has look) ms ≡ ms
    pub no_descriptors : filter (is_of_no_descriptor has look) ms ≡ ms
    pub fields : fields_in has look ms ≡ []
    pub errors : all_field_errors has look ms ≡ []
    pub faults : all_use_faults has look ms ≡ []
    pub owners : field_owners has look ms ≡ []

  pub are_nothing : (ms : List Mention) → AllByRecursion IsOfNone ms → AreNothing ms
  are_nothing [] h = search
  are_nothing (m ∷ ms) h = let k : AreNothing ms = are_nothing ms h.1 in search arith

  -- a use of a descriptor and of a field of one has a fault
  pub no_senses : (ms : List Mention) → all_use_faults has look ms ≡ [] → AllByRecursion IsOfNone ms
  no_senses [] e = tt
  no_senses (m ∷ ms) e =
      let k : use_faults has look m ≡ [] = left_none (use_faults has look m) (all_use_faults has look ms) e in
      (grind arith, no_senses ms (right_none (use_faults has look m) (all_use_faults has look ms) e))

module _ (ps : Plans) where
  abbrev pub HaveNone : Type 0
  HaveNone = AreNothing (names_of ps) (table_of ps) (mentions_of ps)

  pub names_are : HaveNone → are_terms (numbered_all 0 ps) ≡ true → names_wrong ps ≡ name_errors (numbered_all 0 ps) ++ all_below (table_of ps) (mentions_of ps)
  names_are none are = rw (none.no_fields, block_errors (whole_of (numbered_all 0 ps)) (numbered_all 0 ps) are [] nothing_declared)

  pub kinds_are : HaveNone → are_terms (numbered_all 0 ps) ≡ true → name_errors (numbered_all 0 ps) ≡ [] → kinds_wrong ps ≡ map message_of (type_errors (numbered_all 0 ps))
  kinds_are none are right = rw (none.no_descriptors, none.faults, block_types (whole_of (numbered_all 0 ps)) (numbered_all 0 ps) are [] nothing_declared right, append-nil)

-- ---- a block in which no descriptor has a name

if_same : {A : Type 0} (b : Bool) (x : A) → (if b then x else x) ≡ x
if_same b x = grind arith

abbrev IsBare : Plan → Type 0
IsBare p = (names_inside p ≡ []) × (opened p ≡ p) × (closed p ≡ p) × (declared_by p ≡ []) × (named_of p ≡ []) × ((next : ℕ) → named_in next p ≡ [])
    × ((bits value : Bool) (node : ℕ) → resolved [] bits value node p ≡ p) × ((bits value : Bool) (place : Place) (node : ℕ) → broken [] bits value place node p ≡ [])

abbrev AreBare : Plans → Type 0
AreBare ps = (names_among ps ≡ []) × (declaring ps ≡ ps) × (stripped ps ≡ ps) × (named_of (plan_at ps 0) ≡ []) × (named_of (plan_at ps 1) ≡ []) × ((next : ℕ) → named_from next ps ≡ [])
    × ((among : Among) (n : ℕ) (bits : Bool) (node : ℕ) → resolved_from [] among n bits node ps ≡ ps) × ((among : Among) (n : ℕ) (bits : Bool) (node : ℕ) → broken_from [] among n bits node ps ≡ [])

mutual
  is_bare : (p : Plan) → names_descriptor p ≡ false → IsBare p
  is_bare (a_fill bytes (named ∷ others)) e = absurd cc
  is_bare (a_name name) e = search arith
  is_bare (a_call name args) e = let a : AreBare args = are_bare args e in search (a.0, a.6, a.7)
  is_bare (a_form op args body) e =
      let a : AreBare args = are_bare args (or_parts (names_descriptors args) (names_descriptors body) e).0 in
      let b : AreBare body = are_bare body (or_parts (names_descriptors args) (names_descriptors body) e).1 in
      search (a.0, a.4, a.6, a.7, b.0, b.1, b.2, b.5, b.6, b.7, if_same)
  is_bare _ e = search

  are_bare : (ps : Plans) → names_descriptors ps ≡ false → AreBare ps
  are_bare no_plans e = search
  are_bare (plan place p ps) e =
      let a : IsBare p = is_bare p (or_parts (names_descriptor p) (names_descriptors ps) e).0 in
      let b : AreBare ps = are_bare ps (or_parts (names_descriptor p) (names_descriptors ps) e).1 in
      search (a.0, a.1, a.2, a.3, a.5, a.6, a.7, b.0, b.1, b.2, b.5, b.6, b.7, if_same)

abbrev no_descriptor : AbsolutePath → Option NamedDescriptor
no_descriptor path = None

-- no mention is of a descriptor, none declares one, and nothing is declared below one
none_of : (has : AbsolutePath → Bool) (ms : List Mention) → AllByRecursion (IsOfNone has no_descriptor) ms × (described [] ms ≡ []) × (all_below no_descriptor ms ≡ [])
none_of has [] = (tt, refl, refl)
none_of has (m ∷ ms) = let k = none_of has ms in search arith

module _ (ps : Plans) (e : names_descriptors ps ≡ false) where
  bare : AreBare ps
  bare = are_bare ps e

  table_none : table_of ps ≡ no_descriptor
  table_none = ap (λ ns. lookup (described ns (mentions_of ps))) (bare.5 0) ∙ ap (λ ds. lookup ds) (none_of (names_of ps) (mentions_of ps)).1

  none : HaveNone ps
  none = let has = names_of ps in subst (λ look. AreNothing has look (mentions_of ps)) (sym table_none) (are_nothing has no_descriptor (mentions_of ps) (none_of has (mentions_of ps)).0)

  pub unnamed_checked : checked_terms ps ≡ ps
  unnamed_checked = ap (λ qs. resolved_from (fields_of qs) OfCall 0 false 0 qs) bare.1 ∙ rw none.fields (bare.6 OfCall 0 false 0)

  pub unnamed_paths : described_paths ps ≡ (λ path. false)
  unnamed_paths = ap {B = AbsolutePath → Bool} (λ qs path. is_some (table_of qs path)) unnamed_checked ∙ ap {B = AbsolutePath → Bool} (λ look path. is_some (look path)) table_none

  pub unnamed_resolved : resolved_terms ps ≡ ps
  unnamed_resolved = ap stripped unnamed_checked ∙ bare.2

  pub unnamed_broken : broken_fields ps ≡ []
  unnamed_broken = ap (λ qs. broken_from (fields_of qs) OfCall 0 false 0 qs) bare.1 ∙ rw none.fields (bare.7 OfCall 0 false 0)

  pub unnamed_owners : owners_of (declaring ps) ≡ []
  unnamed_owners = ap owners_of bare.1 ∙ none.owners

  pub unnamed_names : are_terms (numbered_all 0 ps) ≡ true → names_told ps ≡ map message_of (name_errors (numbered_all 0 ps))
  unnamed_names are =
      ap (λ qs. map message_of (names_wrong qs ++ fields_wrong (declaring ps))) unnamed_checked ∙ ap (λ qs. map message_of (names_wrong ps ++ fields_wrong qs)) bare.1
      ∙ rw (none.errors, names_are ps none are, table_none, (none_of (names_of ps) (mentions_of ps)).2) (simp append-nil)

  pub unnamed_kinds : are_terms (numbered_all 0 ps) ≡ true → name_errors (numbered_all 0 ps) ≡ [] → kinds_told ps ≡ map message_of (type_errors (numbered_all 0 ps))
  unnamed_kinds are right = ap (λ qs. kinds_wrong qs ++ broken_fields ps) unnamed_checked ∙ ap (λ ms. kinds_wrong ps ++ ms) unnamed_broken ∙ append-nil (kinds_wrong ps) ∙ kinds_are ps none are right

-- ---- a block of which nothing is told

module _ (ps : Plans) where
  abbrev all : Plans
  all = checked_terms ps

  module _ (kinds : kinds_told ps ≡ []) where
    no_kinds_wrong : kinds_wrong all ≡ []
    no_kinds_wrong = left_none (kinds_wrong all) (broken_fields ps) kinds

    uses : AllByRecursion (IsOfNone (names_of all) (table_of all)) (mentions_of all)
    uses = no_senses (names_of all) (table_of all) (mentions_of all) (right_none _ (all_use_faults (names_of all) (table_of all) (mentions_of all)) no_kinds_wrong)

    -- no mention denotes a descriptor or a field of one
    pub untold_uses : All (IsOfNone (names_of all) (table_of all)) (mentions_of all)
    untold_uses = All-from_recursion (IsOfNone (names_of all) (table_of all)) (mentions_of all) uses

  module _ (names : names_told ps ≡ []) where
    no_names_wrong : names_wrong all ≡ []
    no_names_wrong = left_none (names_wrong all) (fields_wrong (declaring ps)) (none_wrong (names_wrong all ++ fields_wrong (declaring ps)) [] (sym names) refl)

    -- nothing is declared directly below one
    pub untold_below : all_below (table_of all) (mentions_of all) ≡ []
    untold_below = right_none _ (all_below (table_of all) (mentions_of all)) no_names_wrong

  module _ (are : are_terms (checked_trees ps) ≡ true) (names : names_told ps ≡ []) (kinds : kinds_told ps ≡ []) where
    none_used : HaveNone all
    none_used = are_nothing (names_of all) (table_of all) (mentions_of all) (uses kinds)

    pub untold_names : name_errors (checked_trees ps) ≡ []
    untold_names = left_none (name_errors (checked_trees ps)) (all_below (table_of all) (mentions_of all)) (sym (names_are all none_used are) ∙ no_names_wrong names)

    pub untold_kinds : type_errors (checked_trees ps) ≡ []
    untold_kinds = none_wrong (type_errors (checked_trees ps)) [] (sym (no_kinds_wrong kinds) ∙ kinds_are all none_used are untold_names) refl

-- ---- and the terms that are compiled

pub checked_are_terms : (next : ℕ) (ps : Plans) → IsProgram (numbered_all next ps) → are_terms (checked_trees ps) ≡ true
checked_are_terms next ps h = terms_stripped (checked_terms ps) next (checked_whole next ps h) (formed_terms (Unit {0}) AreNamed (Unit {0}) (Unit {0}) (numbered_all next (resolved_terms ps)) (resolved_formed next ps h))

module _ (next : ℕ) (ps : Plans) (formed : IsProgram (numbered_all next ps)) (names : names_told ps ≡ []) (kinds : kinds_told ps ≡ []) where
  -- the terms that are checked can be taken apart, are terms without errors of names, and their descriptors are apart
  apart : AreWhole (checked_terms ps) × (are_terms (checked_trees ps) ≡ true) × (name_errors (checked_trees ps) ≡ []) × DescriptorsAreApart (checked_trees ps)
  apart =
      let whole = checked_whole next ps formed in
      let are = checked_are_terms next ps formed in (whole, are, untold_names ps are names kinds, untold_apart (checked_terms ps) whole (untold_uses ps kinds) (untold_below ps names))

  pub resolved_names : name_errors (numbered_all 0 (resolved_terms ps)) ≡ []
  resolved_names = stripped_names (checked_terms ps) apart.0 apart.1 apart.2 apart.3

  pub resolved_kinds : type_errors (numbered_all 0 (resolved_terms ps)) ≡ []
  resolved_kinds = stripped_kinds (checked_terms ps) apart.0 apart.1 apart.2 (untold_kinds ps apart.1 names kinds) apart.3

  pub resolved_calls : (whole_of (numbered_all 0 (resolved_terms ps))).calls ≡ (whole_of (checked_trees ps)).calls
  resolved_calls = stripped_calls (checked_terms ps) apart.0 apart.1 apart.2 apart.3

  pub resolved_index : (paths : List AbsolutePath) (flags left : List Bool) (table : List (Option NamedDescriptor)) → Agrees paths flags (all_declared (checked_trees ps)) → Tabled paths table (table_of (checked_terms ps))
      → ((n : ℕ) → get_or left n false ≡ (if is_some (get_or table n None) then false else get_or flags n false)) → Agrees paths left (all_declared (numbered_all 0 (resolved_terms ps)))
  resolved_index = forgotten_index (checked_terms ps) apart.0 apart.1 apart.2 apart.3
