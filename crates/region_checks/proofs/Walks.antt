-- Nodes, mentions and sites one after another.
use Rattle.std.proofs.Common.{◌≡◌, ℕ, zero, suc, ◌+◌, ◌<◌, ◌≤◌, true, false, List, [], ◌∷◌, ◌++◌, length, get_or, take, drop, map, Option, Some, None, Vec, Global, append_assoc, refl, sym, ap, subst, ◌∙◌, arith}
use Rattle.std.specs.Prelude.{slice_get}
use Rattle.std.proofs.lemmas.List.{drop_all, length-map}
use Rattle.acpi_values.specs.Paths.{AbsolutePath}
use Rattle.iasl_messages.specs.declared.message.Message.{Message}
use Rattle.acpi_values.specs.declared.width.Width.{Width}
use Rattle.asl_tree.specs.declared.term.Op.{Op}
use Rattle.asl_tree.specs.declared.term.Node.{Node}
use Rattle.asl_tree.specs.declared.term.Term.{Term}
use Rattle.asl_tree.specs.declared.term.Term as D
use Rattle.asl_tree.specs.declared.term.Term.TheVariants as V
use Rattle.asl_tree.specs.View.{tree_of, trees_of, form}
use Rattle.asl_tree.specs.Tree.{At, Trees}
use Rattle.acpi_names.specs.Errors.{Whole, final, name_end}
use Rattle.acpi_names.specs.Paths.{AreDistinct}
use Rattle.acpi_names.specs.Tables.{Tabled}
use Rattle.acpi_state.specs.Objects.{Object, lookup}
use Rattle.acpi_state.specs.Outcomes.{choose}
use Rattle.asl_tree.specs.declared.path.Path.{Path}
use Rattle.asl_tree.specs.Names.{denoted}
use Rattle.asl_meaning.specs.Declarations.{is_named, nothing_declared}
use Rattle.name_kinds.proofs.Entries.{entry_here}
use Rattle.acpi_names.specs.Parts.{part_of}
use Rattle.acpi_names.specs.Shown.{shown, all_shown}
use Rattle.acpi_names.specs.declared.mention.Mention.{Mention as CodeMention}
use Rattle.acpi_names.proofs.Trees.{form_tree, call_tree}
use Rattle.term_plans.specs.Plans.{Plan, a_form, Plans, plan_of, plans_of}
use Rattle.term_plans.proofs.Plans.{plan_form}
use Rattle.asl_numbers.specs.Numbers.{inside, nodes}
use Rattle.field_checks.specs.Lists.{term_errors, all_errors}
use Rattle.name_kinds.proofs.Places.{next_dropped}
use Rattle.region_checks.specs.declared.measure.Extent.{Extent}
use Rattle.region_checks.specs.declared.site.Site.{Site as CodeSite}
use Rattle.region_checks.specs.Sites.{Site, RegionAt, FieldIn, sites_all}
use Rattle.region_checks.specs.Measures.{measures, measures_all, part_measures, is_site, site_with, first_measure, rest_measures, left_measures, joined}
use Rattle.region_checks.specs.Regions.{sizes, size_at, site_errors, all_site_errors, sited_errors, region_errors}
use Rattle.region_checks.specs.Shown.{site_as, IsWithin}
use Rattle.region_checks.proofs.Forms.{measured_form}
use Rattle.region_checks.proofs.Joins.{right_nil, sites_joined, no_sites}
use Rattle.name_kinds.specs.Seen.{seen}
use Rattle.name_kinds.proofs.Seeing.{block_seen}
use Rattle.acpi_names.specs.Terms.{are_terms}
use Rattle.acpi_names.specs.Mentions.{Mention, block_mentions}
use Rattle.std.specs.List.{All}
use Rattle.std.proofs.lemmas.List.Elements.{All-append, All-cons}

module _ (width : Width) where
  abbrev pub measures_of : List Node → List Extent
  measures_of ns = measures_all width (trees_of ns) (plans_of ns)

  -- the nodes from one on: that one alone, and those behind it
  alone_first : (ns : List Node) (i : ℕ) → i < length ns → measures_of (drop i ns) ≡ measures_of (take 1 (drop i ns)) ++ measures_of (drop (suc i) ns)
  unfolding trees_of plans_of
  alone_first [] i lt = absurd (omega (arith, lt))
  alone_first (n ∷ ns) zero lt = ap (λ ms. ms ++ measures_of ns) (sym (right_nil (measures width (tree_of (record { id = n.id; place = n.place }) n.term) (plan_of n.term))))
  alone_first (n ∷ ns) (suc i) lt = alone_first ns i (omega (arith, lt))

  none_left : (ns : List Node) (i : ℕ) → length ns ≤ i → measures_of (drop i ns) ≡ []
  unfolding trees_of
  none_left [] zero le = refl
  none_left [] (suc i) le = refl
  none_left (n ∷ ns) zero le = absurd (omega (arith, le))
  none_left (n ∷ ns) (suc i) le = none_left ns i (omega (arith, le))

  -- some first nodes are measured, and those behind them are not yet
  abbrev pub Remains : List Node → ℕ → List Extent → List Extent → Type 0
  Remains ns i initial now = now ++ measures_of (drop i ns) ≡ initial ++ measures_of ns

  pub next_measured : (ns alone : List Node) (i : ℕ) (initial now next : List Extent) → i < length ns → alone ≡ take 1 (drop i ns) → Remains ns i initial now → next ≡ now ++ measures_of alone → Remains ns (i + 1) initial next
  next_measured ns alone i initial now next lt e before told =
      let more : i + 1 ≡ suc i = omega arith in
      ap (λ k. next ++ measures_of (drop k ns)) more
      ∙ ap (λ ms. ms ++ measures_of (drop (suc i) ns)) (told ∙ ap (λ ns. now ++ measures_of ns) e)
      ∙ append_assoc now (measures_of (take 1 (drop i ns))) (measures_of (drop (suc i) ns))
      ∙ ap (λ ms. now ++ ms) (sym (alone_first ns i lt))
      ∙ before

  pub all_measured : (ns : List Node) (i : ℕ) (initial now : List Extent) → length ns ≤ i → Remains ns i initial now → now ≡ initial ++ measures_of ns
  all_measured ns i initial now le before = sym (right_nil now) ∙ ap (λ ms. now ++ ms) (sym (none_left ns i le)) ∙ before

  one_smaller : (ns : List Node) (i : ℕ) → nodes (plans_of (take 1 (drop i ns))) ≤ nodes (plans_of ns)
  unfolding plans_of
  one_smaller [] zero = omega arith
  one_smaller [] (suc i) = omega arith
  one_smaller (n ∷ ns) zero = omega arith
  one_smaller (n ∷ ns) (suc i) = omega (arith, one_smaller ns i)

  one_alone : (ns : List Node) (i : ℕ) → i < length ns → length (take 1 (drop i ns)) ≡ 1
  one_alone [] i lt = absurd (omega (arith, lt))
  one_alone (n ∷ ns) zero lt = refl
  one_alone (n ∷ ns) (suc i) lt = one_alone ns i (omega (arith, lt))

  -- a slice of one node
  pub slice_smaller : (ns : List Node) (i k : ℕ) → k ≡ 1 → nodes (plans_of (take k (drop i ns))) ≤ nodes (plans_of ns)
  slice_smaller ns i k e = subst (λ n. nodes (plans_of (take n (drop i ns))) ≤ nodes (plans_of ns)) (sym e) (one_smaller ns i)

  pub slice_alone : (ns : List Node) (i k : ℕ) → k ≡ 1 → i < length ns → length (take k (drop i ns)) ≡ 1
  slice_alone ns i k e lt = ap (λ n. length (take n (drop i ns))) e ∙ one_alone ns i lt

  -- a node that stands alone
  pub alone_nodes : (alone : List Node) (node d : Node) → length alone ≡ 1 → get_or alone 0 d ≡ node → nodes (plans_of alone) ≡ suc (inside (plan_of node.term))
  unfolding plans_of
  alone_nodes [] node d e h = absurd (omega (arith, e))
  alone_nodes (n ∷ []) node d e h = let s : inside (plan_of n.term) ≡ inside (plan_of node.term) = ap (λ (m : Node). inside (plan_of m.term)) h in omega (arith, s)
  alone_nodes (n ∷ m ∷ ns) node d e h = absurd (omega (arith, e))

  alone_is : (alone : List Node) (node d : Node) → length alone ≡ 1 → get_or alone 0 d ≡ node → alone ≡ node ∷ []
  alone_is [] node d e h = absurd (omega (arith, e))
  alone_is (n ∷ []) node d e h = ap (λ m. m ∷ []) h
  alone_is (n ∷ m ∷ ns) node d e h = absurd (omega (arith, e))

  measures_alone : (node : Node) → measures_of (node ∷ []) ≡ measures width (tree_of (record { id = node.id; place = node.place }) node.term) (plan_of node.term) ++ []
  unfolding trees_of plans_of
  measures_alone node = refl

  errors_alone : (node : Node) → all_errors (plans_of (node ∷ [])) ≡ term_errors (plan_of node.term) ++ []
  unfolding plans_of
  errors_alone node = refl

  by_form : (at : At) (t : Term) (op : Op) (args body : Vec Node Global) → t ≡ D.Form op args body → measures width (tree_of at t) (plan_of t) ≡ part_measures width (part_of op (trees_of args.items) (trees_of body.items)) (trees_of args.items) (trees_of body.items) (plans_of args.items) (plans_of body.items) (term_errors (plan_of t))
  by_form at t op args body e =
      let xs = plans_of args.items in
      let ys = plans_of body.items in
      let p : plan_of t ≡ a_form op xs ys = ap plan_of e ∙ plan_form op args body in
      ap (λ u. measures width u (plan_of t)) (ap (tree_of at) e ∙ form_tree at op args body)
      ∙ ap (measures width (form at op (trees_of args.items) (trees_of body.items))) p
      ∙ measured_form width at op (trees_of args.items) (trees_of body.items) xs ys
      ∙ ap (λ q. part_measures width (part_of op (trees_of args.items) (trees_of body.items)) (trees_of args.items) (trees_of body.items) xs ys (term_errors q)) (sym p)

  -- a form that stands alone
  pub form_alone : (alone : List Node) (node d : Node) (op : Op) (args body : Vec Node Global) (xs ys : List Node) → length alone ≡ 1 → get_or alone 0 d ≡ node → node.term ≡ D.Form op args body → xs ≡ args.items → ys ≡ body.items → part_measures width (part_of op (trees_of xs) (trees_of ys)) (trees_of xs) (trees_of ys) (plans_of xs) (plans_of ys) (all_errors (plans_of alone)) ≡ measures_of alone
  form_alone alone node d op args body xs ys e h is ax by =
      let told = λ (xs ys : List Node) (es : List Message). part_measures width (part_of op (trees_of xs) (trees_of ys)) (trees_of xs) (trees_of ys) (plans_of xs) (plans_of ys) es in
      let one : alone ≡ node ∷ [] = alone_is alone node d e h in
      ap (λ ns. told ns ys (all_errors (plans_of alone))) ax ∙ ap (λ ns. told args.items ns (all_errors (plans_of alone))) by
      ∙ ap (told args.items body.items) (ap (λ ns. all_errors (plans_of ns)) one ∙ errors_alone node ∙ right_nil (term_errors (plan_of node.term)))
      ∙ sym (by_form (record { id = node.id; place = node.place }) node.term op args body is)
      ∙ sym (right_nil (measures width (tree_of (record { id = node.id; place = node.place }) node.term) (plan_of node.term)))
      ∙ sym (measures_alone node) ∙ ap measures_of (sym one)

  -- what is no form says nothing
  nothing_said : (at : At) (p : Plan) (t : Term) → ((o : Op) (v w : Vec Node Global) → t ≡ D.Form o v w → ⊥) → measures width (tree_of at t) p ≡ []
  unfolding tree_of
  nothing_said at p t not_form = by_layer (D.out-Term t) (sym (D.roll-out-Term t))
    where
      said : Term → List Extent
      said u = measures width (tree_of at u) p

      by_layer : (f : D.Term-F Term Node) → t ≡ D.roll-Term f → measures width (tree_of at t) p ≡ []
      by_layer (D.Term-F.Integer n) e = ap said (e ∙ V.rolls-Integer n)
      by_layer (D.Term-F.Text text) e = ap said (e ∙ V.rolls-Text text)
      by_layer (D.Term-F.Fill bytes named) e = ap said (e ∙ V.rolls-Fill bytes named)
      by_layer (D.Term-F.Word word) e = ap said (e ∙ V.rolls-Word word)
      by_layer (D.Term-F.Local n) e = ap said (e ∙ V.rolls-Local n)
      by_layer (D.Term-F.Arg n) e = ap said (e ∙ V.rolls-Arg n)
      by_layer (D.Term-F.Debug) e = ap said (e ∙ V.rolls-Debug)
      by_layer (D.Term-F.Omitted) e = ap said (e ∙ V.rolls-Omitted)
      by_layer (D.Term-F.Name name) e = ap said (e ∙ V.rolls-Name name)
      by_layer (D.Term-F.Unit s n) e = ap said (e ∙ V.rolls-Unit s n)
      by_layer (D.Term-F.Skip n) e = ap said (e ∙ V.rolls-Skip n)
      by_layer (D.Term-F.Offset n) e = ap said (e ∙ V.rolls-Offset n)
      by_layer (D.Term-F.Access access attribute count) e = ap said (e ∙ V.rolls-Access access attribute count)
      by_layer (D.Term-F.Call name v) e = ap said (e ∙ V.rolls-Call name v) ∙ ap (λ u. measures width u p) (call_tree at name v)
      by_layer (D.Term-F.Form o v w) e = absurd (not_form o v w (e ∙ V.rolls-Form o v w))

  pub other_alone : (alone : List Node) (node d : Node) → length alone ≡ 1 → get_or alone 0 d ≡ node → ((o : Op) (v w : Vec Node Global) → node.term ≡ D.Form o v w → ⊥) → measures_of alone ≡ []
  other_alone alone node d e h not_form =
      ap measures_of (alone_is alone node d e h) ∙ measures_alone node ∙ right_nil (measures width (tree_of (record { id = node.id; place = node.place }) node.term) (plan_of node.term))
      ∙ nothing_said (record { id = node.id; place = node.place }) (plan_of node.term) node.term not_form

first_at : (ps : List Extent) (n : ℕ) → first_measure (drop n ps) ≡ slice_get ps n
first_at [] zero = refl
first_at [] (suc n) = refl
first_at (p ∷ ps) zero = refl
first_at (p ∷ ps) (suc n) = first_at ps n

rest_at : (ps : List Extent) (n : ℕ) → rest_measures (drop n ps) ≡ drop (suc n) ps
rest_at [] zero = refl
rest_at [] (suc n) = refl
rest_at (p ∷ ps) zero = refl
rest_at (p ∷ ps) (suc n) = rest_at ps n

-- a mention with its measure, and those behind it
join_next : (paths : List AbsolutePath) (mentions : List CodeMention) (ps : List Extent) (i n : ℕ) (m : CodeMention) → i < length mentions → m ≡ get_or mentions i m → joined (drop i (all_shown paths mentions)) (drop n ps) ≡ site_with (shown paths m) (slice_get ps n) ++ joined (drop (i + 1) (all_shown paths mentions)) (left_measures (is_site (shown paths m)) (drop n ps))
join_next paths mentions ps i n m lt e =
    let rest = joined (drop (i + 1) (all_shown paths mentions)) (left_measures (is_site (shown paths m)) (drop n ps)) in
    ap (λ ms. joined ms (drop n ps)) (next_dropped paths mentions i m lt e) ∙ ap (λ o. site_with (shown paths m) o ++ rest) (first_at ps n)

map_append : {A B : Type 0} (f : A → B) (xs ys : List A) → map f (xs ++ ys) ≡ map f xs ++ map f ys
map_append f [] ys = refl
map_append f (x ∷ xs) ys = ap (λ zs. f x ∷ zs) (map_append f xs ys)

pub site_more : (paths : List AbsolutePath) (mentions : List CodeMention) (ps : List Extent) (i n : ℕ) (m : CodeMention) (site : CodeSite) (old new : List CodeSite) (r : List Site) → i < length mentions → m ≡ get_or mentions i m → site_as paths site ∷ [] ≡ site_with (shown paths m) (slice_get ps n) → is_site (shown paths m) ≡ true → new ≡ old ++ site ∷ []
    → map (site_as paths) old ++ joined (drop i (all_shown paths mentions)) (drop n ps) ≡ r → map (site_as paths) new ++ joined (drop (i + 1) (all_shown paths mentions)) (drop (n + 1) ps) ≡ r
site_more paths mentions ps i n m site old new r lt e is one push before =
    let more : n + 1 ≡ suc n = omega arith in
    let rest = drop (i + 1) (all_shown paths mentions) in
    ap (λ xs. map (site_as paths) xs ++ joined rest (drop (n + 1) ps)) push
    ∙ ap (λ xs. xs ++ joined rest (drop (n + 1) ps)) (map_append (site_as paths) old (site ∷ []))
    ∙ append_assoc (map (site_as paths) old) (site_as paths site ∷ []) (joined rest (drop (n + 1) ps))
    ∙ ap (λ xs. map (site_as paths) old ++ (xs ++ joined rest (drop (n + 1) ps))) is
    ∙ ap (λ qs. map (site_as paths) old ++ (site_with (shown paths m) (slice_get ps n) ++ joined rest qs)) (ap (λ k. drop k ps) more ∙ sym (rest_at ps n) ∙ ap (λ b. left_measures b (drop n ps)) (sym one))
    ∙ ap (λ xs. map (site_as paths) old ++ xs) (sym (join_next paths mentions ps i n m lt e))
    ∙ before

pub site_less : (paths : List AbsolutePath) (mentions : List CodeMention) (ps : List Extent) (i n : ℕ) (m : CodeMention) (old : List CodeSite) (r : List Site) → i < length mentions → m ≡ get_or mentions i m → [] ≡ site_with (shown paths m) (slice_get ps n) → is_site (shown paths m) ≡ false
    → map (site_as paths) old ++ joined (drop i (all_shown paths mentions)) (drop n ps) ≡ r → map (site_as paths) old ++ joined (drop (i + 1) (all_shown paths mentions)) (drop n ps) ≡ r
site_less paths mentions ps i n m old r lt e is none before =
    let rest = drop (i + 1) (all_shown paths mentions) in
    ap (λ b. map (site_as paths) old ++ joined rest (left_measures b (drop n ps))) (sym none)
    ∙ ap (λ xs. map (site_as paths) old ++ (xs ++ joined rest (left_measures (is_site (shown paths m)) (drop n ps)))) is
    ∙ ap (λ xs. map (site_as paths) old ++ xs) (sym (join_next paths mentions ps i n m lt e))
    ∙ before

pub sites_end : (paths : List AbsolutePath) (mentions : List CodeMention) (ps qs : List Extent) (i : ℕ) (found : List CodeSite) (r : List Site) → length mentions ≤ i → map (site_as paths) found ++ joined (drop i (all_shown paths mentions)) qs ≡ r → map (site_as paths) found ≡ r
sites_end paths mentions ps qs i found r le h =
    sym (ap (λ ms. map (site_as paths) found ++ joined ms qs) (drop_all i (all_shown paths mentions) (omega (arith, le, length-map mentions (shown paths)))) ∙ right_nil (map (site_as paths) found)) ∙ h

-- the sizes of sites one after another
sizes_append : (xs ys : List Site) → sizes (xs ++ ys) ≡ sizes xs ++ sizes ys
sizes_append [] ys = refl
sizes_append (RegionAt path (Some size) ∷ xs) ys = ap (λ zs. (path, size) ∷ zs) (sizes_append xs ys)
sizes_append (RegionAt path None ∷ xs) ys = sizes_append xs ys
sizes_append (FieldIn here region scope access units ∷ xs) ys = sizes_append xs ys

next_taken : {A : Type 0} (xs : List A) (i : ℕ) (x : A) → i < length xs → x ≡ get_or xs i x → take (suc i) xs ≡ take i xs ++ x ∷ []
next_taken [] i x lt e = absurd (omega (arith, lt))
next_taken (y ∷ xs) zero x lt e = ap (λ z. z ∷ []) (sym e)
next_taken (y ∷ xs) (suc i) x lt e = ap (λ zs. y ∷ zs) (next_taken xs i x (omega (arith, lt)) e)

pub sizes_next : (paths : List AbsolutePath) (sites : List CodeSite) (i : ℕ) (site : CodeSite) → i < length sites → site ≡ get_or sites i site → sizes (map (site_as paths) (take (i + 1) sites)) ≡ sizes (map (site_as paths) (take i sites)) ++ sizes (site_as paths site ∷ [])
sizes_next paths sites i site lt e =
    let more : i + 1 ≡ suc i = omega arith in
    ap (λ k. sizes (map (site_as paths) (take k sites))) more ∙ ap (λ xs. sizes (map (site_as paths) xs)) (next_taken sites i site lt e)
    ∙ ap sizes (map_append (site_as paths) (take i sites) (site ∷ [])) ∙ sizes_append (map (site_as paths) (take i sites)) (site_as paths site ∷ [])

-- the errors of sites one after another
errors_from : (whole : Whole) (regions : List (AbsolutePath × ℕ)) (f : CodeSite → Site) (sites : List CodeSite) (i : ℕ) (site : CodeSite) → i < length sites → site ≡ get_or sites i site → all_site_errors whole regions (map f (drop i sites)) ≡ site_errors whole regions (f site) ++ all_site_errors whole regions (map f (drop (suc i) sites))
errors_from whole regions f [] i site lt e = absurd (omega (arith, lt))
errors_from whole regions f (x ∷ sites) zero site lt e = ap (λ y. site_errors whole regions (f y) ++ all_site_errors whole regions (map f sites)) (sym e)
errors_from whole regions f (x ∷ sites) (suc i) site lt e = errors_from whole regions f sites i site (omega (arith, lt)) e

pub errors_next : (whole : Whole) (regions : List (AbsolutePath × ℕ)) (f : CodeSite → Site) (sites : List CodeSite) (i : ℕ) (site : CodeSite) (old new r : List Message) → i < length sites → site ≡ get_or sites i site → new ≡ old ++ site_errors whole regions (f site)
    → old ++ all_site_errors whole regions (map f (drop i sites)) ≡ r → new ++ all_site_errors whole regions (map f (drop (i + 1) sites)) ≡ r
errors_next whole regions f sites i site old new r lt e told before =
    let more : i + 1 ≡ suc i = omega arith in
    let rest = all_site_errors whole regions (map f (drop (suc i) sites)) in
    ap (λ k. new ++ all_site_errors whole regions (map f (drop k sites))) more ∙ ap (λ ms. ms ++ rest) told
    ∙ append_assoc old (site_errors whole regions (f site)) rest ∙ ap (λ ms. old ++ ms) (sym (errors_from whole regions f sites i site lt e)) ∙ before

pub errors_end : (whole : Whole) (regions : List (AbsolutePath × ℕ)) (f : CodeSite → Site) (sites : List CodeSite) (i : ℕ) (found r : List Message) → length sites ≤ i → found ++ all_site_errors whole regions (map f (drop i sites)) ≡ r → found ≡ r
errors_end whole regions f sites i found r le h =
    sym (ap (λ xs. found ++ all_site_errors whole regions (map f xs)) (drop_all i sites le) ∙ right_nil found) ∙ h

-- what a table says of an end
pub size_found : (paths : List AbsolutePath) (table : List (Option ℕ)) (regions : List (AbsolutePath × ℕ)) (n m : ℕ) (object : Object) → AreDistinct paths → n < length paths
    → get_or paths n [] ≡ get_or paths m [] → Tabled paths table (lookup regions) → get_or table n None ≡ size_at regions (Some (get_or paths m [], object))
size_found paths table regions n m object distinct lt at tabled = sym (entry_here paths table n distinct lt) ∙ tabled (get_or paths n []) ∙ ap (lookup regions) at

-- where a name ends
pub end_found : (whole : Whole) (name : Path) (scope : AbsolutePath) (path : AbsolutePath) (end : Option (AbsolutePath × Object)) → Some path ≡ denoted (is_named whole.all) name scope → end ≡ final whole.known path → end ≡ name_end whole name scope
end_found whole name scope path end is e = e ∙ ap (λ o. choose o None (final whole.known)) is

pub no_end : (whole : Whole) (name : Path) (scope : AbsolutePath) → None ≡ denoted (is_named whole.all) name scope → None ≡ name_end whole name scope
no_end whole name scope is = ap (λ o. choose o None (final whole.known)) is

-- a site is found
pub site_put : (paths : List AbsolutePath) (mentions : List CodeMention) (ps : List Extent) (i n next : ℕ) (m : CodeMention) (o : Option Extent) (site : CodeSite) (old new out : List CodeSite) (r : List Site) → i < length mentions → m ≡ get_or mentions i m → o ≡ slice_get ps n → site_as paths site ∷ [] ≡ site_with (shown paths m) o → is_site (shown paths m) ≡ true → new ≡ old ++ site ∷ []
    → out ≡ new → next ≡ n + 1 → map (site_as paths) old ++ joined (drop i (all_shown paths mentions)) (drop n ps) ≡ r → map (site_as paths) out ++ joined (drop (i + 1) (all_shown paths mentions)) (drop next ps) ≡ r
site_put paths mentions ps i n next m o site old new out r lt e at is one push same count before =
    let rest = drop (i + 1) (all_shown paths mentions) in
    ap (λ xs. map (site_as paths) xs ++ joined rest (drop next ps)) same ∙ ap (λ k. map (site_as paths) new ++ joined rest (drop k ps)) count
    ∙ site_more paths mentions ps i n m site old new r lt e (is ∙ ap (site_with (shown paths m)) at) one push before

-- none is found
pub site_skipped : (paths : List AbsolutePath) (mentions : List CodeMention) (ps : List Extent) (i n next : ℕ) (m : CodeMention) (o : Option Extent) (old out : List CodeSite) (r : List Site) → i < length mentions → m ≡ get_or mentions i m → o ≡ slice_get ps n → [] ≡ site_with (shown paths m) o → is_site (shown paths m) ≡ false → out ≡ old → next ≡ n
    → map (site_as paths) old ++ joined (drop i (all_shown paths mentions)) (drop n ps) ≡ r → map (site_as paths) out ++ joined (drop (i + 1) (all_shown paths mentions)) (drop next ps) ≡ r
site_skipped paths mentions ps i n next m o old out r lt e at is none same count before =
    let rest = drop (i + 1) (all_shown paths mentions) in
    ap (λ xs. map (site_as paths) xs ++ joined rest (drop next ps)) same ∙ ap (λ k. map (site_as paths) old ++ joined rest (drop k ps)) count
    ∙ site_less paths mentions ps i n m old r lt e (is ∙ ap (site_with (shown paths m)) at) none before

pub within_more : (n : ℕ) (site : CodeSite) (old new out : List CodeSite) → out ≡ new → new ≡ old ++ site ∷ [] → IsWithin n site → All (IsWithin n) old → All (IsWithin n) out
within_more n site old new out same push h k =
    subst (All (IsWithin n)) (sym (same ∙ push)) (All-append (IsWithin n) old (site ∷ []) k (All-cons (IsWithin n) site [] h (λ i d lt. absurd (omega (arith, lt)))))

module _ (width : Width) where
  -- what is told of a block
  pub block_faults : (ts : Trees) (ps : Plans) (ms : List Mention) (given : List Extent) (out : List Message) → ms ≡ block_mentions ts [] nothing_declared → given ≡ measures_all width ts ps → out ≡ sited_errors (seen ms) (joined ms given) → out ≡ sited_errors (seen (block_mentions ts [] nothing_declared)) (sites_all width ts ps [] nothing_declared)
  block_faults ts ps ms given out mentioned measured told =
      let bm = block_mentions ts [] nothing_declared in
      told ∙ ap (λ xs. sited_errors (seen xs) (joined xs given)) mentioned ∙ ap (λ qs. sited_errors (seen bm) (joined bm qs)) measured
      ∙ ap (sited_errors (seen bm)) (sites_joined width ts ps [] nothing_declared)

  -- without regions and fields nothing is told
  pub nothing_told : (ts : Trees) (ps : Plans) (whole : Whole) (given : List Extent) (out : List Message) → given ≡ measures_all width ts ps → length given ≡ 0 → out ≡ [] → out ≡ sited_errors whole (sites_all width ts ps [] nothing_declared)
  nothing_told ts ps whole given out measured none nothing =
      nothing ∙ ap (sited_errors whole) (sym (no_sites width ts ps [] nothing_declared (sym measured ∙ no_measures given none)))
    where
      no_measures : (xs : List Extent) → length xs ≡ 0 → xs ≡ []
      no_measures [] e = refl
      no_measures (x ∷ xs) e = absurd (omega (arith, e))

  -- the same by what the trees say
  pub block_seen_errors : (ts : Trees) (ps : Plans) → are_terms ts ≡ true → sited_errors (seen (block_mentions ts [] nothing_declared)) (sites_all width ts ps [] nothing_declared) ≡ region_errors width ts ps
  block_seen_errors ts ps are = ap (λ w. sited_errors w (sites_all width ts ps [] nothing_declared)) (block_seen ts are)
