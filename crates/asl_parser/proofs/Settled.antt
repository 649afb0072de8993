-- Operators that are applied to the tree that is held.
use Rattle.std.proofs.Common.{◌≡◌, ℕ, ◌<◌, ◌≤◌, Some, Bool, true, false, List, [], ◌∷◌, length, refl, sym, ap, ◌∙◌, arith}
use Rattle.asl_syntax.specs.declared.raw.Infix.{Infix}
use Rattle.asl_syntax.specs.declared.mark.Spot.{Spot}
use Rattle.asl_syntax.specs.declared.mark.Lexeme.{Lexeme}
use Rattle.asl_syntax.specs.declared.subtree.Subtree.{Subtree}
use Rattle.asl_syntax.specs.declared.subtree.Subtrees.{Subtrees}
use Rattle.asl_syntax.specs.declared.frame.Frame.{Frame}
use Rattle.asl_syntax.specs.declared.frame.Frame.TheVariants as f
use Rattle.asl_syntax.specs.declared.open.FrameKind.TheVariants as k
use Rattle.std.proofs.lemmas.Bool.{le-leb}
use Rattle.asl_syntax.specs.declared.raw.Infix.TheVariants as op
use Rattle.asl_syntax.specs.declared.sign.Strength.{Strength}
use Rattle.asl_parser.specs.declared.state.ParserState.TheVariants as st
use Rattle.asl_syntax.specs.Grow.{leading, node_over, apply_raw, join, joined, no_subtrees, applied, posted}
use Rattle.asl_syntax.specs.Frames.{room}
use Rattle.asl_parser.specs.Machine.{settle, operator, allow, listed}
use Rattle.asl_syntax.specs.Opens.{kind_of, done_of, around, frame_on, single, tree_of, IsOne}
use Rattle.asl_parser.specs.Steps.{binds, applied_once, index_closed, omitted}
use Rattle.asl_syntax.proofs.Merged.{merged_none}
use Rattle.asl_syntax.proofs.Stacks.{one_single}

-- ---- one operator

once : (e : Subtree) (fs : List Frame) (level most : ℕ) (p : Spot) (o : Infix) → kind_of fs ≡ k.Pending level most p o → (applied p o (done_of fs) e, around fs) ≡ applied_once e fs
once e [] level most p o h = absurd cc
once e (f.Unit done ∷ fs) level most p o h = absurd cc
once e (f.Args q w done ∷ fs) level most p o h = absurd cc
once e (f.Body q w args done ∷ fs) level most p o h = absurd cc
once e (f.Bracket ∷ fs) level most p o h = absurd cc
once e (f.Index q left ∷ fs) level most p o h = absurd cc
once e (f.List q done ∷ fs) level most p o h = absurd cc
once e (f.Pending m n q i xs ∷ fs) level most p o h = cc

pub over : (p : Spot) (o : Infix) (done : Subtrees) (e t : Subtree) (first : ℕ) (v : Subtrees) → first ≡ leading p.token done.levels → v ≡ joined done e → t ≡ node_over first (apply_raw p o v.raws) v.levels → t ≡ applied p o done e
unfolding applied
over p o done e t first v first_is v_is t_is =
    t_is ∙ ap (λ (n : ℕ). node_over n (apply_raw p o v.raws) v.levels) first_is ∙ ap (λ (u : Subtrees). node_over (leading p.token done.levels) (apply_raw p o u.raws) u.levels) v_is

pub applied_top : (e t : Subtree) (fs gs : List Frame) (level most : ℕ) (p : Spot) (o : Infix) (first : ℕ) (v : Subtrees × List Frame) → kind_of fs ≡ k.Pending level most p o → first ≡ leading p.token (done_of fs).levels → v ≡ (joined (done_of fs) e, around fs)
    → t ≡ node_over first (apply_raw p o v.0.raws) v.0.levels → gs ≡ v.1 → (t, gs) ≡ applied_once e fs
applied_top e t fs gs level most p o first v kind_is first_is v_is t_is gs_is =
    let tree : t ≡ applied p o (done_of fs) e = over p o (done_of fs) e t first v.0 first_is (ap (λ (u : Subtrees × List Frame). u.0) v_is) t_is in
    let rest : gs ≡ around fs = gs_is ∙ ap (λ (u : Subtrees × List Frame). u.1) v_is in
    ap (λ (x : Subtree). (x, gs)) tree ∙ ap (λ (hs : List Frame). (applied p o (done_of fs) e, hs)) rest ∙ once e fs level most p o kind_is

-- ---- all of them

pub settled : (pull : ℕ) (e : Subtree) (fs : List Frame) → binds pull fs ≡ false → settle pull e fs ≡ (e, fs)
unfolding settle
settled pull e [] h = refl
settled pull e (f.Unit done ∷ fs) h = refl
settled pull e (f.Args p w done ∷ fs) h = refl
settled pull e (f.Body p w args done ∷ fs) h = refl
settled pull e (f.Bracket ∷ fs) h = refl
settled pull e (f.Index p left ∷ fs) h = refl
settled pull e (f.Pending level most p o xs ∷ fs) h = rw h refl
settled pull e (f.List p done ∷ fs) h = refl

pub settles : (pull : ℕ) (e : Subtree) (fs : List Frame) → binds pull fs ≡ true → settle pull (applied_once e fs).0 (applied_once e fs).1 ≡ settle pull e fs
unfolding settle
settles pull e [] h = absurd cc
settles pull e (f.Unit done ∷ fs) h = absurd cc
settles pull e (f.Args p w done ∷ fs) h = absurd cc
settles pull e (f.Body p w args done ∷ fs) h = absurd cc
settles pull e (f.Bracket ∷ fs) h = absurd cc
settles pull e (f.Index p left ∷ fs) h = absurd cc
settles pull e (f.Pending level most p o xs ∷ fs) h = rw h refl
settles pull e (f.List p done ∷ fs) h = absurd cc

pub fewer : (pull : ℕ) (e : Subtree) (fs : List Frame) → binds pull fs ≡ true → length (applied_once e fs).1 < length fs
fewer pull e [] h = absurd cc
fewer pull e (f.Unit done ∷ fs) h = absurd cc
fewer pull e (f.Args p w done ∷ fs) h = absurd cc
fewer pull e (f.Body p w args done ∷ fs) h = absurd cc
fewer pull e (f.Bracket ∷ fs) h = absurd cc
fewer pull e (f.Index p left ∷ fs) h = absurd cc
fewer pull e (f.Pending level most p o xs ∷ fs) h = omega arith
fewer pull e (f.List p done ∷ fs) h = absurd cc

-- ---- a tree alone

pub joined_alone : (a : Subtree) → joined no_subtrees a ≡ single a
unfolding joined
joined_alone a = ap (λ (l : List ℕ). record { raws = join (Some []) a.raw; levels = l }) (merged_none [] a.levels refl)

pub joined_one : (trees : Subtrees) → IsOne trees → joined no_subtrees (tree_of trees) ≡ trees
joined_one trees h = joined_alone (tree_of trees) ∙ one_single trees h

pub posts : (p : Spot) (o : Infix) (trees : Subtrees) (t : Subtree) (first : ℕ) → IsOne trees → first ≡ leading p.token trees.levels → t ≡ node_over first (apply_raw p o trees.raws) trees.levels → t ≡ posted p o (tree_of trees)
unfolding posted
posts p o trees t first h first_is t_is =
    t_is ∙ ap (λ (n : ℕ). node_over n (apply_raw p o trees.raws) trees.levels) first_is ∙ ap (λ (u : Subtrees). node_over (leading p.token trees.levels) (apply_raw p o u.raws) u.levels) (sym (joined_one trees h))

pub index_closes : (e t : Subtree) (fs gs : List Frame) (p : Spot) (first : ℕ) (v : Subtrees × List Frame) → kind_of fs ≡ k.Index p → first ≡ leading p.token (done_of fs).levels → v ≡ (joined (done_of fs) e, around fs)
    → t ≡ node_over first (apply_raw p op.Index v.0.raws) v.0.levels → gs ≡ v.1 → index_closed e fs ≡ Some (st.Whole t, gs)
index_closes e t [] gs p first v kind_is first_is v_is t_is gs_is = absurd cc
index_closes e t (f.Unit done ∷ fs) gs p first v kind_is first_is v_is t_is gs_is = absurd cc
index_closes e t (f.Args q w done ∷ fs) gs p first v kind_is first_is v_is t_is gs_is = absurd cc
index_closes e t (f.Body q w args done ∷ fs) gs p first v kind_is first_is v_is t_is gs_is = absurd cc
index_closes e t (f.Bracket ∷ fs) gs p first v kind_is first_is v_is t_is gs_is = absurd cc
index_closes e t (f.Pending m n q i xs ∷ fs) gs p first v kind_is first_is v_is t_is gs_is = absurd cc
index_closes e t (f.List q done ∷ fs) gs p first v kind_is first_is v_is t_is gs_is = absurd cc
index_closes e t (f.Index q a ∷ fs) gs p first v kind_is first_is v_is t_is gs_is =
    let same : q ≡ p = cc in
    let alone : single a ≡ joined no_subtrees a = sym (joined_alone a) in
    let tree : t ≡ applied p op.Index (joined no_subtrees a) e
    = over p op.Index (joined no_subtrees a) e t first v.0 (first_is ∙ ap (λ (d : Subtrees). leading p.token d.levels) alone) (ap (λ (u : Subtrees × List Frame). u.0) v_is ∙ ap (λ (d : Subtrees). joined d e) alone) t_is in
    let rest : gs ≡ fs = gs_is ∙ ap (λ (u : Subtrees × List Frame). u.1) v_is in
    ap (λ (x : Spot). Some (st.Whole (applied x op.Index (joined no_subtrees a) e), fs)) same ∙ ap (λ (x : Subtree). Some (st.Whole x, fs)) (sym tree) ∙ ap (λ (hs : List Frame). Some (st.Whole t, hs)) (sym rest)

pub operator_opens : (p : Spot) (i : Infix) (o : Strength) (v w : Subtrees × List Frame) (r : Subtree × List Frame) → (tree_of v.0, v.1) ≡ r → IsOne v.0 → o.level ≤ room v.1 → w ≡ (no_subtrees, frame_on (k.Pending o.level o.room p i) v.0 v.1) → operator p i o r ≡ Some (st.Operand, w.1)
operator_opens p i o v w r r_is one low w_is =
    ap (operator p i o) (sym r_is) ∙ ap (λ (b : Bool). allow b (st.Operand, f.Pending o.level o.room p i (joined no_subtrees (tree_of v.0)) ∷ v.1)) (le-leb o.level (room v.1) low)
    ∙ ap (λ (d : Subtrees). Some (st.Operand, f.Pending o.level o.room p i d ∷ v.1)) (joined_one v.0 one) ∙ ap (λ (u : Subtrees × List Frame). Some (st.Operand, u.1)) (sym w_is)

-- ---- an argument that is left out

pub omits : (e : Subtree) (x : Lexeme) (fs : List Frame) (p : Spot) (w : List ℕ) → kind_of fs ≡ k.Args p w → listed e x fs ≡ omitted e x fs
unfolding listed
omits e x [] p w h = absurd cc
omits e x (f.Unit done ∷ fs) p w h = absurd cc
omits e x (f.Args q v done ∷ fs) p w h = refl
omits e x (f.Body q v args done ∷ fs) p w h = absurd cc
omits e x (f.Bracket ∷ fs) p w h = absurd cc
omits e x (f.Index q left ∷ fs) p w h = absurd cc
omits e x (f.Pending m n q i xs ∷ fs) p w h = absurd cc
omits e x (f.List q done ∷ fs) p w h = absurd cc
