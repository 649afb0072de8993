-- What is open, as the code keeps it.
use Rattle.std.proofs.Common.{◌≡◌, ℕ, suc, ◌+◌, ◌-◌, ◌≤◌, Bool, true, false, List, [], ◌∷◌, ◌++◌, Option, Some, None, length, take, drop, refl, sym, ap, ◌∙◌, arith, subst, cond, length-drop, length-append}
use Rattle.std.proofs.lemmas.List.{drop-append-le, take-append-le, take_all, drop_all, length-take-le, take-take, take-append-drop}
use Rattle.std.specs.Prelude.{nat_eq, ◌&&◌}
use Rattle.asl_syntax.specs.declared.raw.Raw.{Raw}
use Rattle.asl_syntax.specs.declared.subtree.Subtree.{Subtree}
use Rattle.asl_syntax.specs.declared.subtree.Subtrees.{Subtrees}
use Rattle.asl_syntax.specs.declared.frame.Frame.{Frame}
use Rattle.asl_syntax.specs.declared.open.FrameGroup.{FrameGroup}
use Rattle.asl_syntax.specs.declared.open.FrameKind.{FrameKind}
use Rattle.asl_syntax.specs.declared.open.FrameKind.TheVariants as k
use Rattle.asl_syntax.specs.declared.open.OpenFrame.{OpenFrame}
use Rattle.std.specs.Prelude.{is_some, nat_le}
use Rattle.std.specs.Option.{option_to_list}
use Rattle.asl_syntax.specs.declared.mark.Spot.{Spot}
use Rattle.asl_syntax.specs.Grow.{leaf, join, joined, no_subtrees, merged, cut, limit, node_over, item_raw, some_raws, raws_given, levels_given, item}
use Rattle.asl_syntax.proofs.Heights.{merged_same}
use Rattle.asl_syntax.specs.Frames.{depth}
use Rattle.asl_syntax.specs.Opens.{kept, trees_of, first_raw, tree_of, are_one, IsOne, single, frame_on, frames_of, kind_of, done_of, around, added, lists, has_trees, Begins, weight, Lies, AreLaid, weigh, weights, remaining, IsStack}

-- ---- how much is open

depth_on : (kind : FrameKind) (done : Subtrees) (fs : List Frame) → depth (frame_on kind done fs) ≡ weigh kind (depth fs)
depth_on k.Nothing done fs = refl
depth_on k.Unit done fs = refl
depth_on (k.Args p w) done fs = refl
depth_on (k.Body p w args) done fs = refl
depth_on k.Bracket done fs = refl
depth_on (k.Index p) done fs = refl
depth_on (k.Pending level most p o) done fs = refl
depth_on (k.List p) done fs = refl

pub depth_frames : (os : List OpenFrame) (xs : List Raw) → depth (frames_of os xs) ≡ weights os
depth_frames [] xs = refl
depth_frames (o ∷ os) xs = depth_on o.kind (trees_of o.group xs) (frames_of os (take o.group.start xs)) ∙ ap (weigh o.kind) (depth_frames os (take o.group.start xs))

flag_le : (b : Bool) → cond b 1 0 ≤ 1
flag_le true = omega arith
flag_le false = omega arith

pub weight_le : (kind : FrameKind) → weight kind ≤ 1
weight_le k.Nothing = omega arith
weight_le k.Unit = omega arith
weight_le (k.Args p w) = omega arith
weight_le (k.Body p w args) = omega arith
weight_le k.Bracket = omega arith
weight_le (k.Index p) = omega arith
weight_le (k.Pending level most p o) = flag_le (nat_eq level most)
weight_le (k.List p) = omega arith

weigh_le : (kind : FrameKind) (n : ℕ) → weigh kind n ≤ suc n
weigh_le k.Nothing n = omega arith
weigh_le k.Unit n = omega arith
weigh_le (k.Args p w) n = omega arith
weigh_le (k.Body p w args) n = omega arith
weigh_le k.Bracket n = omega arith
weigh_le (k.Index p) n = omega arith
weigh_le (k.Pending level most p o) n = let e : weight (k.Pending level most p o) ≤ 1 = weight_le (k.Pending level most p o) in omega (arith, e)
weigh_le (k.List p) n = omega arith

pub weights_le : (os : List OpenFrame) → weights os ≤ length os
weights_le [] = omega arith
weights_le (o ∷ os) = omega (arith, weigh_le o.kind (weights os), weights_le os)

-- one that has trees, or is a bracket, weighs what it weighs over the others
pub weigh_trees : (kind : FrameKind) (n : ℕ) → has_trees kind ≡ true → weigh kind n ≡ weight kind + n
weigh_trees k.Nothing n h = absurd cc
weigh_trees k.Unit n h = refl
weigh_trees (k.Args p w) n h = refl
weigh_trees (k.Body p w args) n h = refl
weigh_trees k.Bracket n h = absurd cc
weigh_trees (k.Index p) n h = refl
weigh_trees (k.Pending level most p o) n h = refl
weigh_trees (k.List p) n h = refl

pub weigh_begins : (kind : FrameKind) (done : Subtrees) (n : ℕ) → Begins kind done → weigh kind n ≡ weight kind + n
weigh_begins k.Nothing done n h = absurd h
weigh_begins k.Unit done n h = refl
weigh_begins (k.Args p w) done n h = refl
weigh_begins (k.Body p w args) done n h = refl
weigh_begins k.Bracket done n h = absurd h
weigh_begins (k.Index p) done n h = refl
weigh_begins (k.Pending level most p o) done n h = refl
weigh_begins (k.List p) done n h = refl

pub weights_remaining : (os : List OpenFrame) → weights (remaining os) ≡ weights os
weights_remaining [] = refl
weights_remaining (o ∷ os) = refl

-- ---- taking a frame off

pub frames_remaining : (os : List OpenFrame) (xs : List Raw) → frames_of (remaining os) xs ≡ frames_of os xs
frames_remaining [] xs = refl
frames_remaining (o ∷ os) xs = refl

pub laid_remaining : (os : List OpenFrame) (xs : List Raw) → AreLaid os xs → AreLaid (remaining os) xs
laid_remaining [] xs h = (omega arith, tt)
laid_remaining (o ∷ os) xs h = h

kind_on : (kind : FrameKind) (done : Subtrees) (fs : List Frame) → kind_of (frame_on kind done fs) ≡ kind
kind_on k.Nothing done fs = refl
kind_on k.Unit done fs = refl
kind_on (k.Args p w) done fs = refl
kind_on (k.Body p w args) done fs = refl
kind_on k.Bracket done fs = refl
kind_on (k.Index p) done fs = refl
kind_on (k.Pending level most p o) done fs = refl
kind_on (k.List p) done fs = refl

-- the kind of the innermost frame
pub kind_frames : (o : OpenFrame) (os : List OpenFrame) (xs : List Raw) → kind_of (frames_of (o ∷ os) xs) ≡ o.kind
kind_frames o os xs = kind_on o.kind (trees_of o.group xs) (frames_of os (take o.group.start xs))

around_on : (kind : FrameKind) (done : Subtrees) (fs : List Frame) → has_trees kind ≡ true → around (frame_on kind done fs) ≡ fs
around_on k.Nothing done fs h = absurd cc
around_on k.Unit done fs h = refl
around_on (k.Args p w) done fs h = refl
around_on (k.Body p w args) done fs h = refl
around_on k.Bracket done fs h = absurd cc
around_on (k.Index p) done fs h = refl
around_on (k.Pending level most p o) done fs h = refl
around_on (k.List p) done fs h = refl

one_raws : (raws : Option (List Raw)) → are_one raws ≡ true → join (Some []) (first_raw raws) ≡ raws
one_raws None h = refl
one_raws (Some []) h = absurd cc
one_raws (Some (x ∷ [])) h = refl
one_raws (Some (x ∷ y ∷ xs)) h = absurd cc

pub one_single : (trees : Subtrees) → IsOne trees → single (tree_of trees) ≡ trees
one_single trees h = ap (λ (raws : Option (List Raw)). record { raws = raws; levels = trees.levels }) (one_raws trees.raws h)

pub done_on : (kind : FrameKind) (g : FrameGroup) (xs : List Raw) (fs : List Frame) → has_trees kind ≡ true → Lies kind g xs → done_of (frame_on kind (trees_of g xs) fs) ≡ trees_of g xs
done_on k.Nothing g xs fs h lies = absurd cc
done_on k.Unit g xs fs h lies = refl
done_on (k.Args p w) g xs fs h lies = refl
done_on (k.Body p w args) g xs fs h lies = refl
done_on k.Bracket g xs fs h lies = absurd cc
done_on (k.Index p) g xs fs h lies = one_single (trees_of g xs) lies.1
done_on (k.Pending level most p o) g xs fs h lies = refl
done_on (k.List p) g xs fs h lies = refl

-- ---- what ends

lies_within : (kind : FrameKind) (g : FrameGroup) (xs : List Raw) → Lies kind g xs → g.start ≤ length xs
lies_within k.Nothing g xs h = h
lies_within k.Unit g xs h = h
lies_within (k.Args p w) g xs h = h
lies_within (k.Body p w args) g xs h = h
lies_within k.Bracket g xs h = omega (arith, h)
lies_within (k.Index p) g xs h = h.0
lies_within (k.Pending level most p o) g xs h = h
lies_within (k.List p) g xs h = h

-- the place where the innermost one starts
start_le : (nodes : List Raw) (hand : FrameGroup) (o : OpenFrame) (os : List OpenFrame) (d : ℕ) → IsStack nodes hand (o ∷ os) d → o.group.start ≤ hand.start
start_le nodes hand o os d h =
    let e : length (take hand.start nodes) ≡ hand.start = length-take-le hand.start nodes h.held in
    omega (arith, e, lies_within o.kind o.group (take hand.start nodes) h.laid.0)

-- what is left of a stack
pub stack_left : (nodes : List Raw) (hand g : FrameGroup) (o q : OpenFrame) (os news : List OpenFrame) (d n : ℕ) → IsStack nodes hand (o ∷ os) d → q ≡ o → g.start ≡ q.group.start → news ≡ remaining os → weigh o.kind (weights os) ≡ n + weights os → IsStack nodes g news (d - n)
stack_left nodes hand g o q os news d n h is at rest weighs =
    let s : g.start ≡ o.group.start = at ∙ ap (λ (x : OpenFrame). x.group.start) is in
    let le : o.group.start ≤ hand.start = start_le nodes hand o os d h in
    let same : take o.group.start (take hand.start nodes) ≡ take g.start nodes = take-take o.group.start hand.start nodes le ∙ ap (λ (i : ℕ). take i nodes) (sym s) in
    let laid : AreLaid (remaining os) (take g.start nodes) = laid_remaining os (take g.start nodes) (subst (AreLaid os) same h.laid.1) in
    record { held = omega (arith, s, le, h.held); laid = subst (λ (us : List OpenFrame). AreLaid us (take g.start nodes)) (sym rest) laid; deep = omega (arith, h.deep, weighs, weights_remaining os, ap weights rest) }

-- what is around the innermost one
pub frames_left : (nodes : List Raw) (hand g : FrameGroup) (o q : OpenFrame) (os news : List OpenFrame) (d : ℕ) → IsStack nodes hand (o ∷ os) d → q ≡ o → g.start ≡ q.group.start → news ≡ remaining os → has_trees o.kind ≡ true → frames_of news (take g.start nodes) ≡ around (frames_of (o ∷ os) (take hand.start nodes))
frames_left nodes hand g o q os news d h is at rest trees =
    let s : g.start ≡ o.group.start = at ∙ ap (λ (x : OpenFrame). x.group.start) is in
    let same : take o.group.start (take hand.start nodes) ≡ take g.start nodes = take-take o.group.start hand.start nodes (start_le nodes hand o os d h) ∙ ap (λ (i : ℕ). take i nodes) (sym s) in
    ap (λ (us : List OpenFrame). frames_of us (take g.start nodes)) rest ∙ frames_remaining os (take g.start nodes) ∙ ap (frames_of os) (sym same)
    ∙ sym (around_on o.kind (trees_of o.group (take hand.start nodes)) (frames_of os (take o.group.start (take hand.start nodes))) trees)

-- where nothing is held, the nodes are those of what is open
pub all_taken : (b : Bool) (s : ℕ) (xs : List Raw) → kept b (drop s xs) ≡ Some [] → take s xs ≡ xs
all_taken true s xs h = let e : drop s xs ≡ [] = cc in take_all s xs (let n : length (drop s xs) ≡ 0 = ap length e in omega (arith, n, length-drop s xs))
all_taken false s xs h = absurd cc

pub done_left : (nodes : List Raw) (hand : FrameGroup) (o q : OpenFrame) (os : List OpenFrame) (d : ℕ) → IsStack nodes hand (o ∷ os) d → q ≡ o → has_trees o.kind ≡ true → trees_of hand nodes ≡ no_subtrees → trees_of q.group nodes ≡ done_of (frames_of (o ∷ os) (take hand.start nodes))
done_left nodes hand o q os d h is trees none =
    let all : take hand.start nodes ≡ nodes = all_taken hand.kept hand.start nodes (ap (λ (t : Subtrees). t.raws) none) in
    ap (λ (x : OpenFrame). trees_of x.group nodes) is ∙ ap (trees_of o.group) (sym all)
    ∙ sym (done_on o.kind o.group (take hand.start nodes) (frames_of os (take o.group.start (take hand.start nodes))) trees h.laid.0)

-- ---- one more tree

joined_raws : (b c : Bool) (i j : ℕ) (xs : List Raw) → i ≤ length (take j xs) → are_one (kept c (drop j xs)) ≡ true → kept (b && c) (drop i xs) ≡ join (kept b (drop i (take j xs))) (first_raw (kept c (drop j xs)))
joined_raws false c i j xs h one = refl
joined_raws true false i j xs h one = refl
joined_raws true true i j xs h one = raws_on (drop j xs) refl one where
  raws_on : (last : List Raw) → drop j xs ≡ last → are_one (Some last) ≡ true → Some (drop i xs) ≡ join (Some (drop i (take j xs))) (first_raw (Some last))
  raws_on [] e o = absurd cc
  raws_on (x ∷ y ∷ ys) e o = absurd cc
  raws_on (x ∷ []) e o =
      let all : take j xs ++ drop j xs ≡ xs = take-append-drop j xs in
      ap Some (ap (drop i) (sym all) ∙ drop-append-le i (take j xs) (drop j xs) h ∙ ap (λ (ys : List Raw). drop i (take j xs) ++ ys) e)

-- ---- as callers see a stack

pub kind_is : (nodes : List Raw) (hand : FrameGroup) (o : OpenFrame) (os : List OpenFrame) (v : Subtrees × List Frame) → (trees_of hand nodes, frames_of (o ∷ os) (take hand.start nodes)) ≡ v → o.kind ≡ kind_of v.1
kind_is nodes hand o os v is = sym (kind_frames o os (take hand.start nodes)) ∙ ap (λ (u : Subtrees × List Frame). kind_of u.1) is

pub weighs_as : (o q : OpenFrame) (os : List OpenFrame) → q ≡ o → has_trees o.kind ≡ true → weigh o.kind (weights os) ≡ weight q.kind + weights os
weighs_as o q os is trees = weigh_trees o.kind (weights os) trees ∙ ap (λ (x : OpenFrame). weight x.kind + weights os) (sym is)

-- ---- a bracket ends

pub frames_unbracketed : (nodes : List Raw) (hand : FrameGroup) (o : OpenFrame) (os news : List OpenFrame) (d : ℕ) → IsStack nodes hand (o ∷ os) d → hand.start ≡ o.group.start → news ≡ remaining os → o.kind ≡ k.Bracket → frames_of news (take hand.start nodes) ≡ around (frames_of (o ∷ os) (take hand.start nodes))
frames_unbracketed nodes hand o os news d h s rest bracket =
    let same : take o.group.start (take hand.start nodes) ≡ take hand.start nodes = take-take o.group.start hand.start nodes (start_le nodes hand o os d h) ∙ ap (λ (i : ℕ). take i nodes) (sym s) in
    ap (λ (us : List OpenFrame). frames_of us (take hand.start nodes)) rest ∙ frames_remaining os (take hand.start nodes) ∙ ap (frames_of os) (sym same)
    ∙ sym (ap (λ (kind : FrameKind). around (frame_on kind (trees_of o.group (take hand.start nodes)) (frames_of os (take o.group.start (take hand.start nodes))))) bracket)

pub bracket_start : (nodes : List Raw) (hand : FrameGroup) (o : OpenFrame) (os : List OpenFrame) (d : ℕ) → IsStack nodes hand (o ∷ os) d → o.kind ≡ k.Bracket → hand.start ≡ o.group.start
bracket_start nodes hand o os d h bracket =
    let e : o.group.start ≡ length (take hand.start nodes) = subst (λ (kind : FrameKind). Lies kind o.group (take hand.start nodes)) bracket h.laid.0 in
    sym (e ∙ length-take-le hand.start nodes h.held)

pub weighs_one : (o : OpenFrame) (os : List OpenFrame) → o.kind ≡ k.Bracket → weigh o.kind (weights os) ≡ 1 + weights os
weighs_one o os bracket = ap (λ (kind : FrameKind). weigh kind (weights os)) bracket

-- ---- what is held is joined to the innermost one

joined_group : (nodes : List Raw) (hand g : FrameGroup) (o : OpenFrame) (os : List OpenFrame) (d : ℕ) → IsStack nodes hand (o ∷ os) d → IsOne (trees_of hand nodes) → g.start ≡ o.group.start → g.kept ≡ (o.group.kept && hand.kept) → g.levels ≡ merged o.group.levels hand.levels
    → trees_of g nodes ≡ joined (trees_of o.group (take hand.start nodes)) (tree_of (trees_of hand nodes))
unfolding joined
joined_group nodes hand g o os d h one start kept_is levels =
    let within = lies_within o.kind o.group (take hand.start nodes) h.laid.0 in
    let raws : kept g.kept (drop g.start nodes) ≡ join (kept o.group.kept (drop o.group.start (take hand.start nodes))) (first_raw (kept hand.kept (drop hand.start nodes)))
    = ap (λ (b : Bool). kept b (drop g.start nodes)) kept_is ∙ ap (λ (i : ℕ). kept (o.group.kept && hand.kept) (drop i nodes)) start
    ∙ joined_raws o.group.kept hand.kept o.group.start hand.start nodes within one in
    ap (λ (r : Option (List Raw)). record { raws = r; levels = g.levels }) raws ∙ ap (λ (l : List ℕ). record { raws = join (kept o.group.kept (drop o.group.start (take hand.start nodes))) (first_raw (kept hand.kept (drop hand.start nodes))); levels = l }) levels

pub joined_left : (nodes : List Raw) (hand g : FrameGroup) (o q : OpenFrame) (os : List OpenFrame) (d : ℕ) → IsStack nodes hand (o ∷ os) d → q ≡ o → has_trees o.kind ≡ true → IsOne (trees_of hand nodes) → g.start ≡ q.group.start → g.kept ≡ (q.group.kept && hand.kept) → g.levels ≡ merged q.group.levels hand.levels
    → trees_of g nodes ≡ joined (done_of (frames_of (o ∷ os) (take hand.start nodes))) (tree_of (trees_of hand nodes))
joined_left nodes hand g o q os d h is trees one start kept_is levels =
    joined_group nodes hand g o os d h one (start ∙ ap (λ (x : OpenFrame). x.group.start) is) (kept_is ∙ ap (λ (x : OpenFrame). x.group.kept && hand.kept) is) (levels ∙ ap (λ (x : OpenFrame). merged x.group.levels hand.levels) is)
    ∙ ap (λ (t : Subtrees). joined t (tree_of (trees_of hand nodes))) (sym (done_on o.kind o.group (take hand.start nodes) (frames_of os (take o.group.start (take hand.start nodes))) trees h.laid.0))

added_on : (kind : FrameKind) (done : Subtrees) (e : Subtree) (fs : List Frame) → lists kind ≡ true → frame_on kind (joined done e) fs ≡ added e (frame_on kind done fs)
added_on k.Nothing done e fs h = absurd cc
added_on k.Unit done e fs h = refl
added_on (k.Args p w) done e fs h = refl
added_on (k.Body p w args) done e fs h = refl
added_on k.Bracket done e fs h = absurd cc
added_on (k.Index p) done e fs h = absurd cc
added_on (k.Pending level most p o) done e fs h = absurd cc
added_on (k.List p) done e fs h = refl

pub frames_added : (nodes : List Raw) (hand g : FrameGroup) (o : OpenFrame) (os : List OpenFrame) (d : ℕ) → IsStack nodes hand (o ∷ os) d → lists o.kind ≡ true → IsOne (trees_of hand nodes) → g.start ≡ o.group.start → g.kept ≡ (o.group.kept && hand.kept) → g.levels ≡ merged o.group.levels hand.levels
    → frames_of (record { kind = o.kind; group = g } ∷ os) nodes ≡ added (tree_of (trees_of hand nodes)) (frames_of (o ∷ os) (take hand.start nodes))
frames_added nodes hand g o os d h trees one start kept_is levels =
    let same : take g.start nodes ≡ take o.group.start (take hand.start nodes) = ap (λ (i : ℕ). take i nodes) start ∙ sym (take-take o.group.start hand.start nodes (start_le nodes hand o os d h)) in
    ap (λ (t : Subtrees). frame_on o.kind t (frames_of os (take g.start nodes))) (joined_group nodes hand g o os d h one start kept_is levels)
    ∙ ap (λ (xs : List Raw). frame_on o.kind (joined (trees_of o.group (take hand.start nodes)) (tree_of (trees_of hand nodes))) (frames_of os xs)) same
    ∙ added_on o.kind (trees_of o.group (take hand.start nodes)) (tree_of (trees_of hand nodes)) (frames_of os (take o.group.start (take hand.start nodes))) trees

-- nothing is held behind all nodes
pub nothing_held : (nodes : List Raw) (hand : FrameGroup) (os : List OpenFrame) → hand.start ≡ length nodes → hand.kept ≡ true → hand.levels ≡ [] → ◌≡◌ {A = Subtrees × List Frame} (trees_of hand nodes, frames_of os (take hand.start nodes)) (no_subtrees, frames_of os nodes)
nothing_held nodes hand os start kept_is levels =
    let none : drop hand.start nodes ≡ [] = drop_all hand.start nodes (omega (arith, start)) in
    let all : take hand.start nodes ≡ nodes = take_all hand.start nodes (omega (arith, start)) in
    let raws : kept hand.kept (drop hand.start nodes) ≡ Some [] = ap (λ (b : Bool). kept b (drop hand.start nodes)) kept_is ∙ ap Some none in
    let trees : trees_of hand nodes ≡ no_subtrees = ap (λ (r : Option (List Raw)). record { raws = r; levels = hand.levels }) raws ∙ ap (λ (l : List ℕ). record { raws = Some []; levels = l }) levels in
    ap (λ (t : Subtrees). (t, frames_of os (take hand.start nodes))) trees ∙ ap (λ (xs : List Raw). (no_subtrees, frames_of os xs)) all

-- ---- a node is put in place of what was held

pub put_raw : (s : ℕ) (xs ys : List Raw) (b : Bool) (raw : Option Raw) → s ≤ length xs → b ≡ is_some raw → ys ≡ take s xs ++ option_to_list raw → first_raw (kept b (drop s ys)) ≡ raw
put_raw s xs ys b None h kept_is at = ap (λ (c : Bool). first_raw (kept c (drop s ys))) kept_is
put_raw s xs ys b (Some x) h kept_is at =
    let n : length (take s xs) ≡ s = length-take-le s xs h in
    let last : drop s (take s xs ++ x ∷ []) ≡ x ∷ [] = drop-append-le s (take s xs) (x ∷ []) (omega (arith, n)) ∙ ap (λ (us : List Raw). us ++ x ∷ []) (drop_all s (take s xs) (omega (arith, n))) in
    ap (λ (c : Bool). first_raw (kept c (drop s ys))) kept_is ∙ ap (λ (us : List Raw). first_raw (Some (drop s us))) at ∙ ap (λ (us : List Raw). first_raw (Some us)) last

pub put_tree : (first : ℕ) (raw got : Option Raw) (n : ℕ) (levels made : List ℕ) → n ≡ length levels → got ≡ cut (nat_le n limit) raw → made ≡ levels ++ first ∷ [] → ◌≡◌ {A = Subtree} (record { raw = got; levels = made }) (node_over first raw levels)
unfolding node_over
put_tree first raw got n levels made len got_is made_is =
    ap (λ (r : Option Raw). record { raw = r; levels = made }) (got_is ∙ ap (λ (m : ℕ). cut (nat_le m limit) raw) len) ∙ ap (λ (l : List ℕ). record { raw = cut (nat_le (length levels) limit) raw; levels = l }) made_is

pub called_item : (p : Spot) (w : List ℕ) (trees : Subtrees) (r : Option Raw) (levels : List ℕ) → r ≡ item_raw p w (some_raws trees.raws) (Some None) → levels ≡ trees.levels → node_over p.token r levels ≡ item p w (Some trees) None
unfolding item
called_item p w trees r levels raw_is levels_are =
    ap (λ (x : Option Raw). node_over p.token x levels) raw_is ∙ ap (node_over p.token (item_raw p w (some_raws trees.raws) (Some None))) (levels_are ∙ sym (merged_same trees.levels [] (omega arith)))

pub block_item : (p : Spot) (w : List ℕ) (args : Option Subtrees) (trees : Subtrees) (r : Option Raw) (levels : List ℕ) → r ≡ item_raw p w (raws_given args) (some_raws trees.raws) → levels ≡ merged (levels_given args) trees.levels → node_over p.token r levels ≡ item p w args (Some trees)
unfolding item
block_item p w args trees r levels raw_is levels_are =
    ap (λ (x : Option Raw). node_over p.token x levels) raw_is ∙ ap (node_over p.token (item_raw p w (raws_given args) (some_raws trees.raws))) levels_are

-- ---- a node is put behind all nodes

and_true : (b : Bool) → (b && true) ≡ b
and_true true = refl
and_true false = refl

pub kept_true : (b : Bool) (xs : List Raw) → kept b xs ≡ Some [] → b ≡ true
kept_true true xs h = refl
kept_true false xs h = absurd cc

pub frames_appended : (nodes more : List Raw) (hand g : FrameGroup) (o : OpenFrame) (os : List OpenFrame) (d first : ℕ) (raw : Raw) → IsStack nodes hand (o ∷ os) d → lists o.kind ≡ true → trees_of hand nodes ≡ no_subtrees → more ≡ nodes ++ raw ∷ [] → g.start ≡ o.group.start → g.kept ≡ o.group.kept → g.levels ≡ merged o.group.levels (first ∷ [])
    → frames_of (record { kind = o.kind; group = g } ∷ os) more ≡ added (leaf first raw) (frames_of (o ∷ os) (take hand.start nodes))
frames_appended nodes more hand g o os d first raw h trees none is start kept_is levels =
    let n = length nodes in let now = nodes ++ raw ∷ [] in
    let all : take hand.start nodes ≡ nodes = all_taken hand.kept hand.start nodes (ap (λ (t : Subtrees). t.raws) none) in
    let front : take n now ≡ nodes = take-append-le n nodes (raw ∷ []) (omega arith) ∙ take_all n nodes (omega arith) in
    let last : drop n now ≡ raw ∷ [] = drop-append-le n nodes (raw ∷ []) (omega arith) ∙ ap (λ (us : List Raw). us ++ raw ∷ []) (drop_all n nodes (omega arith)) in
    let one : FrameGroup = record { start = n; kept = true; levels = first ∷ [] } in
    let size : length now ≡ n + 1 = length-append nodes (raw ∷ []) in
    let stack : IsStack now one (o ∷ os) d = record { held = omega (arith, size); laid = subst (AreLaid (o ∷ os)) (all ∙ sym front) h.laid; deep = h.deep } in
    let is_one : IsOne (trees_of one now) = ap (λ (us : List Raw). are_one (Some us)) last in
    ap (frames_of (record { kind = o.kind; group = g } ∷ os)) is
    ∙ frames_added now one g o os d stack trees is_one start (kept_is ∙ sym (and_true o.group.kept)) levels
    ∙ ap (λ (us : List Raw). added (tree_of (record { raws = Some us; levels = first ∷ [] })) (frames_of (o ∷ os) (take n now))) last
    ∙ ap (λ (us : List Raw). added (leaf first raw) (frames_of (o ∷ os) us)) (front ∙ sym all)

-- ---- a node is held behind what is held

kept_more : (b : Bool) (xs : List Raw) (raw : Raw) → kept b (xs ++ raw ∷ []) ≡ join (kept b xs) (Some raw)
kept_more true xs raw = refl
kept_more false xs raw = refl

pub held_behind : (nodes more : List Raw) (hand g : FrameGroup) (os : List OpenFrame) (first : ℕ) (raw : Raw) → hand.start ≤ length nodes → more ≡ nodes ++ raw ∷ [] → g.start ≡ hand.start → g.kept ≡ hand.kept → g.levels ≡ merged hand.levels (first ∷ [])
    → ◌≡◌ {A = Subtrees × List Frame} (trees_of g more, frames_of os (take g.start more)) (joined (trees_of hand nodes) (leaf first raw), frames_of os (take hand.start nodes))
unfolding joined
held_behind nodes more hand g os first raw h is start kept_is levels =
    let front : take g.start more ≡ take hand.start nodes = ap (λ (i : ℕ). take i more) start ∙ ap (take hand.start) is ∙ take-append-le hand.start nodes (raw ∷ []) h in
    let raws : kept g.kept (drop g.start more) ≡ join (kept hand.kept (drop hand.start nodes)) (Some raw)
    = ap (λ (b : Bool). kept b (drop g.start more)) kept_is ∙ ap (λ (i : ℕ). kept hand.kept (drop i more)) start ∙ ap (λ (us : List Raw). kept hand.kept (drop hand.start us)) is
    ∙ ap (kept hand.kept) (drop-append-le hand.start nodes (raw ∷ []) h) ∙ kept_more hand.kept (drop hand.start nodes) raw in
    let trees : trees_of g more ≡ joined (trees_of hand nodes) (leaf first raw)
    = ap (λ (r : Option (List Raw)). record { raws = r; levels = g.levels }) raws ∙ ap (λ (l : List ℕ). record { raws = join (kept hand.kept (drop hand.start nodes)) (Some raw); levels = l }) levels in
    ap (λ (t : Subtrees). (t, frames_of os (take g.start more))) trees ∙ ap (λ (us : List Raw). (joined (trees_of hand nodes) (leaf first raw), frames_of os us)) front
