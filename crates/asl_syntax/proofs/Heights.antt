-- The levels of trees, and the trees that are kept.
use Rattle.std.proofs.Common.{◌≡◌, ℕ, suc, ◌+◌, ◌-◌, ◌≤◌, ◌<◌, Bool, true, false, List, [], ◌∷◌, ◌++◌, Option, Some, None, length, take, get_or, refl, sym, ap, ◌∙◌, ◌⊎◌, inl, inr, arith}
use Rattle.std.proofs.lemmas.Bool.{le-leb, leb-true, leb-false, lt-leb, lt-ltb, le-ltb, ltb-true, ltb-false}
use Rattle.std.proofs.lemmas.Bool.Decides.{leb_tells}
use Rattle.std.proofs.lemmas.List.{length-append, length-take, get_or-append-add, get_or-take}
use Rattle.std.proofs.Math.ListN.{get_or-append}
use Rattle.std.proofs.Math.Seq.{get_or-append_seam}
use Rattle.std.proofs.lemmas.Option.{slice_get-get_or}
use Rattle.std.specs.Prelude.{nat_le, nat_lt, if◌then◌else◌, ◌&&◌}
use Rattle.asl_syntax.specs.declared.raw.Infix.{Infix}
use Rattle.asl_syntax.specs.declared.raw.Raw.{Raw}
use Rattle.asl_syntax.specs.declared.raw.Raw.TheVariants as raw
use Rattle.asl_syntax.specs.declared.mark.Spot.{Spot}
use Rattle.asl_syntax.specs.declared.subtree.Subtree.{Subtree}
use Rattle.asl_syntax.specs.declared.subtree.Subtrees.{Subtrees}
use Rattle.asl_syntax.specs.Grow.{limit, merged, at_depth, or_else, leading, cut, node_over, no_subtrees, join, joined, apply_raw, applied, posted, list_raw, listing, some_raws, raws_given, levels_given, item_raw, item, grown, grown_all, grown_in}
use Rattle.asl_syntax.specs.Trees.{Tree, a_number, a_text, an_item, a_prefix, a_postfix, a_pair, a_list, a_comma, a_semicolon, an_empty, Trees, none, more, TreeGroup, absent, given, raw_of, raws_of, raws_in, first_token, Node, nodes, nodes_of, nodes_in, first_below}

-- ---- looking a level up

depth_in : (d : ℕ) (xs : List ℕ) → d < length xs → at_depth d xs ≡ Some (get_or xs (length xs - 1 - d) 0)
unfolding at_depth
depth_in d xs h = rw (lt-ltb d (length xs) h) (slice_get-get_or xs (length xs - 1 - d) 0 (omega arith))

depth_past : (d : ℕ) (xs : List ℕ) → length xs ≤ d → at_depth d xs ≡ None
unfolding at_depth
depth_past d xs h = rw (le-ltb d (length xs) h) refl

length-over : (xs : List ℕ) (x : ℕ) → length (xs ++ x ∷ []) ≡ suc (length xs)
length-over xs x = omega (arith, length-append xs (x ∷ []))

pub depth_top : (xs : List ℕ) (x : ℕ) → at_depth 0 (xs ++ x ∷ []) ≡ Some x
depth_top xs x =
    let e : length (xs ++ x ∷ []) - 1 - 0 ≡ length xs = omega (arith, length-over xs x) in
    depth_in 0 (xs ++ x ∷ []) (omega (arith, length-over xs x)) ∙ ap (λ (i : ℕ). Some (get_or (xs ++ x ∷ []) i 0)) e ∙ ap Some (get_or-append_seam xs x [] 0)

depth_under_in : (d : ℕ) (xs : List ℕ) (x : ℕ) → d < length xs → at_depth (suc d) (xs ++ x ∷ []) ≡ at_depth d xs
depth_under_in d xs x h =
    let e : length (xs ++ x ∷ []) - 1 - suc d ≡ length xs - 1 - d = omega (arith, length-over xs x) in
    depth_in (suc d) (xs ++ x ∷ []) (omega (arith, length-over xs x)) ∙ ap (λ (i : ℕ). Some (get_or (xs ++ x ∷ []) i 0)) e
    ∙ ap Some (get_or-append xs (x ∷ []) 0 (length xs - 1 - d) (omega arith)) ∙ sym (depth_in d xs h)

pub depth_under : (d : ℕ) (xs : List ℕ) (x : ℕ) → at_depth (suc d) (xs ++ x ∷ []) ≡ at_depth d xs
depth_under d xs x = elim (leb_tells (suc d) (length xs)) [
  | inl t ↦ depth_under_in d xs x (omega (arith, t.1))
  | inr t ↦ depth_past (suc d) (xs ++ x ∷ []) (omega (arith, length-over xs x, t.1)) ∙ sym (depth_past d xs (omega (arith, t.1)))
]

abbrev pub either : Option ℕ → Option ℕ → Option ℕ
either (Some x) y = Some x
either None y = y

length-taken : (xs ys : List ℕ) → length (take (length ys - length xs) ys) ≡ length ys - length xs
length-taken xs ys = omega (arith, length-take (length ys - length xs) ys)

pub merged_same : (xs ys : List ℕ) → length ys ≤ length xs → merged xs ys ≡ xs
unfolding merged
merged_same xs ys h = let e : length ys - length xs ≡ 0 = omega arith in ap (λ (k : ℕ). take k ys ++ xs) e

pub length-merged : (xs ys : List ℕ) → length (merged xs ys) ≡ (length ys - length xs) + length xs
unfolding merged
length-merged xs ys = omega (arith, length-append (take (length ys - length xs) ys) xs, length-taken xs ys)

merged_first : (d : ℕ) (xs ys : List ℕ) → d < length xs → at_depth d (merged xs ys) ≡ at_depth d xs
unfolding merged
merged_first d xs ys h =
    let front = take (length ys - length xs) ys in
    let e : length (front ++ xs) - 1 - d ≡ length front + (length xs - 1 - d) = omega (arith, length-append front xs) in
    depth_in d (front ++ xs) (omega (arith, length-append front xs)) ∙ ap (λ (i : ℕ). Some (get_or (front ++ xs) i 0)) e
    ∙ ap Some (get_or-append-add front xs (length xs - 1 - d) 0) ∙ sym (depth_in d xs h)

merged_second : (d : ℕ) (xs ys : List ℕ) → length xs ≤ d → d < length ys → at_depth d (merged xs ys) ≡ at_depth d ys
unfolding merged
merged_second d xs ys past h =
    let k = length ys - length xs in
    let front = take k ys in
    let e : length (front ++ xs) - 1 - d ≡ length ys - 1 - d = omega (arith, length-append front xs, length-taken xs ys) in
    depth_in d (front ++ xs) (omega (arith, length-append front xs, length-taken xs ys)) ∙ ap (λ (i : ℕ). Some (get_or (front ++ xs) i 0)) e
    ∙ ap Some (get_or-append front xs 0 (length ys - 1 - d) (omega (arith, length-taken xs ys))) ∙ ap Some (get_or-take k ys (length ys - 1 - d) 0 (omega arith)) ∙ sym (depth_in d ys h)

pub depth_merged : (d : ℕ) (xs ys : List ℕ) → at_depth d (merged xs ys) ≡ either (at_depth d xs) (at_depth d ys)
depth_merged d xs ys = elim (leb_tells (suc d) (length xs)) [
  | inl t ↦ merged_first d xs ys (omega (arith, t.1)) ∙ depth_in d xs (omega (arith, t.1)) ∙ ap (λ o. either o (at_depth d ys)) (sym (depth_in d xs (omega (arith, t.1))))
  | inr t ↦ elim (leb_tells (suc d) (length ys)) [
    | inl u ↦ merged_second d xs ys (omega (arith, t.1)) (omega (arith, u.1)) ∙ ap (λ o. either o (at_depth d ys)) (sym (depth_past d xs (omega (arith, t.1))))
    | inr u ↦ depth_past d (merged xs ys) (omega (arith, length-merged xs ys, t.1, u.1)) ∙ sym (depth_past d ys (omega (arith, u.1))) ∙ ap (λ o. either o (at_depth d ys)) (sym (depth_past d xs (omega (arith, t.1))))
  ]
]

alone : (d : ℕ) (ys : List ℕ) → at_depth d (merged [] ys) ≡ at_depth d ys
alone d ys = depth_merged d [] ys ∙ ap (λ o. either o (at_depth d ys)) (depth_past d [] (omega arith))

leads : (other x : ℕ) (xs : List ℕ) → at_depth 0 xs ≡ Some x → leading other xs ≡ x
unfolding leading
leads other x xs e = ap (or_else other) e

leads_none : (other : ℕ) → leading other [] ≡ other
unfolding leading
leads_none other = ap (or_else other) (depth_past 0 [] (omega arith))

-- ---- the first node that stands too deep

below_by : (b : Bool) (x : ℕ) (p q : Option ℕ) → either (if b then Some x else p) q ≡ (if b then Some x else either p q)
below_by true x p q = refl
below_by false x p q = refl

below_append : (most : ℕ) (xs ys : List Node) → first_below most (xs ++ ys) ≡ either (first_below most xs) (first_below most ys)
below_append most [] ys = refl
below_append most (x ∷ xs) ys =
    ap (λ o. if nat_lt most x.under then Some x.first else o) (below_append most xs ys) ∙ sym (below_by (nat_lt most x.under) x.first (first_below most xs) (first_below most ys))

-- a node over what stands below it
over_by : (most n first lead : ℕ) (below : List Node) (xs : List ℕ) → n ≤ suc most → lead ≡ first → (n ≤ most → first_below most below ≡ at_depth (suc most - suc n) xs)
    → ((nat_lt most n ≡ true) ⊎ (nat_lt most n ≡ false)) → first_below most (record { under = n; first = first } ∷ below) ≡ at_depth (suc most - n) (xs ++ lead ∷ [])
over_by most n first lead below xs low is below_is (inl t) =
    let e : suc most - n ≡ 0 = omega (arith, ltb-true most n t) in
    rw t (sym (ap (λ (d : ℕ). at_depth d (xs ++ lead ∷ [])) e ∙ depth_top xs lead ∙ ap Some is))
over_by most n first lead below xs low is below_is (inr t) =
    let h : n ≤ most = ltb-false most n t in
    let e : suc most - n ≡ suc (suc most - suc n) = omega arith in
    rw t (below_is h ∙ sym (depth_under (suc most - suc n) xs lead) ∙ sym (ap (λ (d : ℕ). at_depth d (xs ++ lead ∷ [])) e))

bool_cases : (b : Bool) → (b ≡ true) ⊎ (b ≡ false)
bool_cases true = inl refl
bool_cases false = inr refl

over : (most n first lead : ℕ) (below : List Node) (xs : List ℕ) → n ≤ suc most → lead ≡ first → (n ≤ most → first_below most below ≡ at_depth (suc most - suc n) xs)
    → first_below most (record { under = n; first = first } ∷ below) ≡ at_depth (suc most - n) (xs ++ lead ∷ [])
over most n first lead below xs low is below_is = over_by most n first lead below xs low is below_is (bool_cases (nat_lt most n))

single : (most n first : ℕ) → n ≤ suc most → first_below most (record { under = n; first = first } ∷ []) ≡ at_depth (suc most - n) (first ∷ [])
single most n first low = over most n first first [] [] low refl (λ h. sym (depth_past (suc most - suc n) [] (omega arith)))

pub top : (e : Tree) → at_depth 0 (grown e).levels ≡ Some (first_token e)
unfolding node_over applied posted listing item joined
top (a_number p n) = depth_top [] p.token
top (a_text p w) = depth_top [] p.token
top (an_item p w args inner) = depth_top (merged (levels_given (grown_in args)) (levels_given (grown_in inner))) p.token
top (a_prefix p o e) = depth_top (merged [] (grown e).levels) (leading p.token []) ∙ ap Some (leads_none p.token)
top (a_postfix p o e) = depth_top (merged [] (grown e).levels) (leading p.token (grown e).levels) ∙ ap Some (leads p.token (first_token e) (grown e).levels (top e))
top (a_pair p o a e) =
    let left = merged [] (grown a).levels in
    depth_top (merged left (grown e).levels) (leading p.token left) ∙ ap Some (leads p.token (first_token a) left (alone 0 (grown a).levels ∙ top a))
top (a_list p xs) = depth_top (grown_all xs).levels p.token
top (a_comma p) = depth_top [] p.token
top (a_semicolon p) = depth_top [] p.token
top (an_empty p) = depth_top [] p.token

two_below : (most n : ℕ) (xs ys : List Node) (us vs : List ℕ) → first_below most xs ≡ at_depth n us → first_below most ys ≡ at_depth n vs → first_below most (xs ++ ys) ≡ at_depth n (merged us vs)
two_below most n xs ys us vs e f = below_append most xs ys ∙ ap (λ o. either o (first_below most ys)) e ∙ ap (either (at_depth n us)) f ∙ sym (depth_merged n us vs)

mutual
  unfolding node_over applied posted listing item joined

  pub tree_levels : (most n : ℕ) (e : Tree) → n ≤ suc most → first_below most (nodes n e) ≡ at_depth (suc most - n) (grown e).levels
  tree_levels most n (a_number p v) low = single most n p.token low
  tree_levels most n (a_text p w) low = single most n p.token low
  tree_levels most n (an_item p w args inner) low =
      over most n p.token p.token (nodes_in (suc n) args ++ nodes_in (suc n) inner) (merged (levels_given (grown_in args)) (levels_given (grown_in inner))) low refl
      (λ h. two_below most (suc most - suc n) (nodes_in (suc n) args) (nodes_in (suc n) inner) (levels_given (grown_in args)) (levels_given (grown_in inner))
      (group_levels most (suc n) args (omega arith)) (group_levels most (suc n) inner (omega arith)))
  tree_levels most n (a_prefix p o e) low =
      over most n p.token (leading p.token []) (nodes (suc n) e) (merged [] (grown e).levels) low (leads_none p.token)
      (λ h. tree_levels most (suc n) e (omega arith) ∙ sym (alone (suc most - suc n) (grown e).levels))
  tree_levels most n (a_postfix p o e) low =
      over most n (first_token e) (leading p.token (grown e).levels) (nodes (suc n) e) (merged [] (grown e).levels) low (leads p.token (first_token e) (grown e).levels (top e))
      (λ h. tree_levels most (suc n) e (omega arith) ∙ sym (alone (suc most - suc n) (grown e).levels))
  tree_levels most n (a_pair p o a e) low =
      let left = merged [] (grown a).levels in
      over most n (first_token a) (leading p.token left) (nodes (suc n) a ++ nodes (suc n) e) (merged left (grown e).levels) low (leads p.token (first_token a) left (alone 0 (grown a).levels ∙ top a))
      (λ h. two_below most (suc most - suc n) (nodes (suc n) a) (nodes (suc n) e) left (grown e).levels
      (tree_levels most (suc n) a (omega arith) ∙ sym (alone (suc most - suc n) (grown a).levels)) (tree_levels most (suc n) e (omega arith)))
  tree_levels most n (a_list p xs) low = over most n p.token p.token (nodes_of (suc n) xs) (grown_all xs).levels low refl (λ h. trees_levels most (suc n) xs (omega arith))
  tree_levels most n (a_comma p) low = single most n p.token low
  tree_levels most n (a_semicolon p) low = single most n p.token low
  tree_levels most n (an_empty p) low = single most n p.token low

  pub trees_levels : (most n : ℕ) (xs : Trees) → n ≤ suc most → first_below most (nodes_of n xs) ≡ at_depth (suc most - n) (grown_all xs).levels
  trees_levels most n none low = sym (depth_past (suc most - n) [] (omega arith))
  trees_levels most n (more xs x) low =
      two_below most (suc most - n) (nodes_of n xs) (nodes n x) (grown_all xs).levels (grown x).levels (trees_levels most n xs low) (tree_levels most n x low)

  group_levels : (most n : ℕ) (xs : TreeGroup) → n ≤ suc most → first_below most (nodes_in n xs) ≡ at_depth (suc most - n) (levels_given (grown_in xs))
  group_levels most n absent low = sym (depth_past (suc most - n) [] (omega arith))
  group_levels most n (given xs) low = trees_levels most n xs low

-- ---- the trees that are kept

abbrev pub keep : {A : Type 0} → Bool → A → Option A
keep true x = Some x
keep false x = None

abbrev pub is_low : List ℕ → Bool
is_low xs = nat_le (length xs) (suc limit)

kept_by : (b c : Bool) (e : Option Raw) (r : Raw) → (b ≡ true → c ≡ true) → e ≡ keep c r → cut b e ≡ keep b r
kept_by true true e r h is = is
kept_by true false e r h is = absurd (let k : false ≡ true = h refl in cc)
kept_by false c e r h is = refl

over_low : (xs : List ℕ) (x : ℕ) → is_low (xs ++ x ∷ []) ≡ nat_le (length xs) limit
over_low xs x = elim (leb_tells (length xs) limit) [
  | inl t ↦ le-leb (length (xs ++ x ∷ [])) (suc limit) (omega (arith, length-over xs x, t.1)) ∙ sym t.0
  | inr t ↦ lt-leb (length (xs ++ x ∷ [])) (suc limit) (omega (arith, length-over xs x, t.1)) ∙ sym t.0
]

kept_over : (first : ℕ) (e : Option Raw) (r : Raw) (xs : List ℕ) → e ≡ keep (is_low xs) r → (node_over first e xs).raw ≡ keep (is_low (node_over first e xs).levels) r
unfolding node_over
kept_over first e r xs is =
    kept_by (nat_le (length xs) limit) (is_low xs) e r (λ h. le-leb (length xs) (suc limit) (omega (arith, leb-true (length xs) limit h))) is ∙ ap (λ (b : Bool). keep b r) (sym (over_low xs first))

merged_low : (xs ys : List ℕ) → is_low (merged xs ys) ≡ (is_low xs && is_low ys)
merged_low xs ys = elim (leb_tells (length xs) (suc limit)) [
  | inl t ↦ elim (leb_tells (length ys) (suc limit)) [
    | inl u ↦ le-leb (length (merged xs ys)) (suc limit) (omega (arith, length-merged xs ys, t.1, u.1)) ∙ sym (rw (t.0, u.0) refl)
    | inr u ↦ lt-leb (length (merged xs ys)) (suc limit) (omega (arith, length-merged xs ys, t.1, u.1)) ∙ sym (rw (t.0, u.0) refl)
  ]
  | inr t ↦ lt-leb (length (merged xs ys)) (suc limit) (omega (arith, length-merged xs ys, t.1)) ∙ sym (rw t.0 refl)
]

join_keep : (b c : Bool) (xs : List Raw) (x : Raw) → join (keep b xs) (keep c x) ≡ keep (b && c) (xs ++ x ∷ [])
join_keep true true xs x = refl
join_keep true false xs x = refl
join_keep false true xs x = refl
join_keep false false xs x = refl

kept_joined : (xs : Subtrees) (x : Subtree) (rs : List Raw) (r : Raw) → xs.raws ≡ keep (is_low xs.levels) rs → x.raw ≡ keep (is_low x.levels) r → (joined xs x).raws ≡ keep (is_low (joined xs x).levels) (rs ++ r ∷ [])
unfolding joined
kept_joined xs x rs r e f =
    ap (λ o. join o x.raw) e ∙ ap (join (keep (is_low xs.levels) rs)) f ∙ join_keep (is_low xs.levels) (is_low x.levels) rs r ∙ ap (λ (b : Bool). keep b (rs ++ r ∷ [])) (sym (merged_low xs.levels x.levels))

apply_keep : (p : Spot) (o : Infix) (b : Bool) (xs : List Raw) → apply_raw p o (keep b xs) ≡ keep b (raw.Apply p.place o xs)
apply_keep p o true xs = refl
apply_keep p o false xs = refl

kept_applied : (first : ℕ) (p : Spot) (o : Infix) (xs : Subtrees) (rs : List Raw) → xs.raws ≡ keep (is_low xs.levels) rs
    → (node_over first (apply_raw p o xs.raws) xs.levels).raw ≡ keep (is_low (node_over first (apply_raw p o xs.raws) xs.levels).levels) (raw.Apply p.place o rs)
kept_applied first p o xs rs e = kept_over first (apply_raw p o xs.raws) (raw.Apply p.place o rs) xs.levels (ap (apply_raw p o) e ∙ apply_keep p o (is_low xs.levels) rs)

list_keep : (p : Spot) (b : Bool) (xs : List Raw) → list_raw p (keep b xs) ≡ keep b (raw.List p.place xs)
list_keep p true xs = refl
list_keep p false xs = refl

some_keep : (b : Bool) (xs : List Raw) → some_raws (keep b xs) ≡ keep b (Some xs)
some_keep true xs = refl
some_keep false xs = refl

item_keep : (p : Spot) (w : List ℕ) (b c : Bool) (args inner : Option (List Raw)) → item_raw p w (keep b args) (keep c inner) ≡ keep (b && c) (raw.Item p.place w args inner)
item_keep p w true true args inner = refl
item_keep p w true false args inner = refl
item_keep p w false true args inner = refl
item_keep p w false false args inner = refl

nothing_kept : no_subtrees.raws ≡ keep (is_low no_subtrees.levels) []
nothing_kept = refl

mutual
  unfolding applied posted listing item

  pub tree_kept : (e : Tree) → (grown e).raw ≡ keep (is_low (grown e).levels) (raw_of e)
  tree_kept (a_number p v) = refl
  tree_kept (a_text p w) = refl
  tree_kept (an_item p w args inner) =
      kept_over p.token (item_raw p w (raws_given (grown_in args)) (raws_given (grown_in inner))) (raw.Item p.place w (raws_in args) (raws_in inner)) (merged (levels_given (grown_in args)) (levels_given (grown_in inner)))
      (ap (λ o. item_raw p w o (raws_given (grown_in inner))) (group_kept args) ∙ ap (item_raw p w (keep (is_low (levels_given (grown_in args))) (raws_in args))) (group_kept inner)
      ∙ item_keep p w (is_low (levels_given (grown_in args))) (is_low (levels_given (grown_in inner))) (raws_in args) (raws_in inner)
      ∙ ap (λ (b : Bool). keep b (raw.Item p.place w (raws_in args) (raws_in inner))) (sym (merged_low (levels_given (grown_in args)) (levels_given (grown_in inner)))))
  tree_kept (a_prefix p o e) = kept_applied (leading p.token []) p o (joined no_subtrees (grown e)) (raw_of e ∷ []) (kept_joined no_subtrees (grown e) [] (raw_of e) nothing_kept (tree_kept e))
  tree_kept (a_postfix p o e) = kept_applied (leading p.token (grown e).levels) p o (joined no_subtrees (grown e)) (raw_of e ∷ []) (kept_joined no_subtrees (grown e) [] (raw_of e) nothing_kept (tree_kept e))
  tree_kept (a_pair p o a e) =
      let left = joined no_subtrees (grown a) in
      kept_applied (leading p.token left.levels) p o (joined left (grown e)) (raw_of a ∷ raw_of e ∷ [])
      (kept_joined left (grown e) (raw_of a ∷ []) (raw_of e) (kept_joined no_subtrees (grown a) [] (raw_of a) nothing_kept (tree_kept a)) (tree_kept e))
  tree_kept (a_list p xs) =
      kept_over p.token (list_raw p (grown_all xs).raws) (raw.List p.place (raws_of xs)) (grown_all xs).levels (ap (list_raw p) (trees_kept xs) ∙ list_keep p (is_low (grown_all xs).levels) (raws_of xs))
  tree_kept (a_comma p) = refl
  tree_kept (a_semicolon p) = refl
  tree_kept (an_empty p) = refl

  pub trees_kept : (xs : Trees) → (grown_all xs).raws ≡ keep (is_low (grown_all xs).levels) (raws_of xs)
  trees_kept none = refl
  trees_kept (more xs x) = kept_joined (grown_all xs) (grown x) (raws_of xs) (raw_of x) (trees_kept xs) (tree_kept x)

  group_kept : (xs : TreeGroup) → raws_given (grown_in xs) ≡ keep (is_low (levels_given (grown_in xs))) (raws_in xs)
  group_kept absent = refl
  group_kept (given xs) = ap some_raws (trees_kept xs) ∙ some_keep (is_low (grown_all xs).levels) (raws_of xs)

-- ---- what a whole source is

-- no node stands too deep: the trees are kept
low_by : (b : Bool) (items rs : List Raw) → keep b rs ≡ Some items → (b ≡ true) × (items ≡ rs)
low_by true items rs e = (refl, cc)
low_by false items rs e = absurd cc

tall_by : (b : Bool) (rs : List Raw) → keep b rs ≡ None → b ≡ false
tall_by true rs e = absurd cc
tall_by false rs e = refl

pub kept_raws : (xs : Trees) (items : List Raw) → (grown_all xs).raws ≡ Some items → items ≡ raws_of xs
kept_raws xs items e = (low_by (is_low (grown_all xs).levels) items (raws_of xs) (sym (trees_kept xs) ∙ e)).1

pub kept_none : (xs : Trees) (items : List Raw) → (grown_all xs).raws ≡ Some items → first_below limit (nodes_of 0 xs) ≡ None
kept_none xs items e =
    let low = (low_by (is_low (grown_all xs).levels) items (raws_of xs) (sym (trees_kept xs) ∙ e)).0 in
    trees_levels limit 0 xs (omega arith) ∙ depth_past (suc limit - 0) (grown_all xs).levels (omega (arith, leb-true (length (grown_all xs).levels) (suc limit) low))

pub tall_node : (xs : Trees) → (grown_all xs).raws ≡ None → first_below limit (nodes_of 0 xs) ≡ Some (or_else 0 (at_depth (suc limit) (grown_all xs).levels))
tall_node xs e =
    let high = tall_by (is_low (grown_all xs).levels) (raws_of xs) (sym (trees_kept xs) ∙ e) in
    let is = depth_in (suc limit) (grown_all xs).levels (omega (arith, leb-false (length (grown_all xs).levels) (suc limit) high)) in
    trees_levels limit 0 xs (omega arith) ∙ is ∙ ap (λ o. Some (or_else 0 o)) (sym is)
