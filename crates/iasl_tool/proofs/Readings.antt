-- A tree that the tokens spell, no more of which is open or stands under one another than may, is what is read.
use Rattle.std.proofs.Common.{◌≡◌, ℕ, suc, ◌<◌, ◌≤◌, Bool, true, false, List, [], ◌∷◌, length, drop, Option, Some, None, refl, sym, ap, ◌∙◌, arith}
use Rattle.std.specs.Prelude.{nat_le, if◌then◌else◌}
use Rattle.asl_lexer.specs.declared.token.Token.{Token}
use Rattle.asl_syntax.specs.declared.raw.Raw.{Raw}
use Rattle.asl_syntax.specs.declared.subtree.Subtrees.{Subtrees}
use Rattle.asl_syntax.specs.declared.frame.Frame.{Frame}
use Rattle.asl_parser.specs.declared.state.ParserState.{ParserState}
use Rattle.asl_parser.specs.declared.state.ParserState.TheVariants as st
use Rattle.asl_syntax.specs.declared.mark.Mark.{Mark}
use Rattle.asl_parser.specs.Depth.{IsShallow, IsLow}
use Rattle.asl_parser.specs.Grammar.{IsSource, Spells}
use Rattle.asl_syntax.specs.Grow.{limit, grown_all, at_depth, or_else}
use Rattle.asl_syntax.specs.Frames.{depth, start}
use Rattle.asl_parser.specs.Machine.{Answer, Config, source, stop, deep, step, finish, walk, within, run, reading}
use Rattle.asl_syntax.specs.Marks.{marks}
use Rattle.asl_parser.specs.Parse.{outcome, outcome_by, grown_to, read}
use Rattle.asl_syntax.specs.Trees.{Trees, raws_of, nodes_of, first_below}
use Rattle.asl_parser.proofs.Complete.{NotDeep, finish_never, spelled_is_read}
use Rattle.asl_parser.proofs.Deep.{is_too_deep, limited_source, limited_stop}
use Rattle.asl_syntax.proofs.Heights.{kept_raws, tall_node}

-- where a walk ends that goes too deep
record Sinks (ts rest : List Mark) : Type 0 where
  at : ℕ
  within' : at ≤ length ts
  are : rest ≡ drop at ts

deeper : (ts rest : List Mark) → deep ts ≡ deep rest → rest ≡ ts
deeper ts rest e = cc

never : (a : ParserState) (fs : List Frame) (rest : List Mark) → finish a fs ≡ deep rest → ⊥
never a fs rest e = by (finish a fs) (finish_never a fs) e
  where
    by : (x : Answer) → NotDeep x → x ≡ deep rest → ⊥
    by (source trees) n e = absurd cc
    by (stop others) n e = absurd cc
    by (deep others) n e = absurd n

sinks : (ts : List Mark) (a : ParserState) (fs : List Frame) (rest : List Mark) → walk (within limit) ts a fs ≡ deep rest → Sinks ts rest
unfolding walk
sinks [] a fs rest e = by (nat_le (depth fs) limit) e
  where
    by : (b : Bool) → (if b then finish a fs else deep []) ≡ deep rest → Sinks [] rest
    by true e = absurd (never a fs rest e)
    by false e = record { at = 0; within' = omega arith; are = deeper [] rest e }
sinks (t ∷ ts) a fs rest e = by (nat_le (depth fs) limit) (step t a fs) e (λ b gs h. sinks ts b gs rest h)
  where
    by : (b : Bool) (m : Option Config) → (if b then elim m [ None ↦ stop (t ∷ ts) | Some c ↦ walk (within limit) ts c.0 c.1 ] else deep (t ∷ ts)) ≡ deep rest
        → ((b : ParserState) (gs : List Frame) → walk (within limit) ts b gs ≡ deep rest → Sinks ts rest) → Sinks (t ∷ ts) rest
    by false m e go = record { at = 0; within' = omega arith; are = deeper (t ∷ ts) rest e }
    by true None e go = absurd cc
    by true (Some c) e go = let r = go c.0 c.1 e in record { at = suc r.at; within' = omega (arith, r.within'); are = r.are }

-- a reading that goes too deep does so behind a token
pub below_start : (ts rest : List Mark) → walk (within limit) ts st.Sequence start ≡ deep rest → (k : ℕ) × (k < length ts) × (rest ≡ drop (suc k) ts)
unfolding walk
below_start [] rest e = absurd (never st.Sequence start rest e)
below_start (t ∷ ts) rest e = by (step t st.Sequence start) e
  where
    by : (m : Option Config) → elim m [ None ↦ stop (t ∷ ts) | Some c ↦ walk (within limit) ts c.0 c.1 ] ≡ deep rest → (k : ℕ) × (k < length (t ∷ ts)) × (rest ≡ drop (suc k) (t ∷ ts))
    by None e = absurd cc
    by (Some c) e = let r = sinks ts c.0 c.1 rest e in (r.at, omega (arith, r.within'), r.are)

not_shallow : (ts rest : List Mark) → reading ts ≡ deep rest → IsShallow limit ts → ⊥
unfolding reading
not_shallow ts rest e shallow =
    let below = below_start ts rest e in
    let opens = is_too_deep limit ts below.0 below.1 (e ∙ ap deep below.2) in
    shallow (suc below.0) opens.deeper

grown_as : (trees : Trees) (items : List Raw) (o : Option (List Raw)) → (grown_all trees).raws ≡ o → items ≡ raws_of trees → first_below limit (nodes_of 0 trees) ≡ None → grown_to (grown_all trees) o ≡ read items
grown_as trees items (Some others) e are low = ap read (kept_raws trees others e ∙ sym are)
grown_as trees items None e are low = absurd (let both = sym low ∙ tall_node trees e in some both)
  where
    some : None ≡ Some (or_else 0 (at_depth (suc limit) (grown_all trees).levels)) → ⊥
    some e = absurd cc

comes : (items : List Raw) (ts : List Mark) (trees : Trees) (x : Answer) → reading ts ≡ x → IsSource trees ts → items ≡ raws_of trees → IsShallow limit ts → first_below limit (nodes_of 0 trees) ≡ None → outcome_by x ≡ read items
unfolding reading
comes items ts trees (source b) e spelled are shallow low =
    let ran : run ts st.Sequence start ≡ source b = limited_source limit ts b e in
    let same : grown_all trees ≡ b = one b (sym (spelled_is_read trees ts spelled) ∙ ran) in
    sym (ap (λ (b : Subtrees). grown_to b b.raws) same) ∙ grown_as trees items (grown_all trees).raws refl are low
  where
    one : (b : Subtrees) → source (grown_all trees) ≡ source b → grown_all trees ≡ b
    one b e = cc
comes items ts trees (stop rest) e spelled are shallow low =
    absurd (no (sym (spelled_is_read trees ts spelled) ∙ limited_stop limit ts rest e))
  where
    no : source (grown_all trees) ≡ stop rest → ⊥
    no e = absurd cc
comes items ts trees (deep rest) e spelled are shallow low = absurd (not_shallow ts rest e shallow)

pub spelled_is_outcome : (items : List Raw) (tokens : List Token) → Spells items tokens → IsShallow limit (marks 0 tokens) → IsLow limit (marks 0 tokens) → outcome tokens ≡ read items
unfolding outcome
spelled_is_outcome items tokens spelled shallow low =
    comes items (marks 0 tokens) spelled.trees (reading (marks 0 tokens)) refl spelled.source spelled.are shallow (low spelled.trees spelled.source)
