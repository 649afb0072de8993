-- What the answer of a reading tells.
use Rattle.std.proofs.Common.{◌≡◌, ℕ, suc, ◌≤◌, ◌<◌, ◌⊎◌, inl, inr, List, length, drop, Option, Some, None, Result, Ok, Err, refl, sym, ap, subst, ◌∙◌, arith}
use Rattle.std.specs.Prelude.{IfOk, OnOk, IfErr}
use Rattle.asl_lexer.specs.declared.token.Token.{Token}
use Rattle.asl_syntax.specs.declared.raw.Raw.{Raw}
use Rattle.asl_syntax.specs.declared.raw.RawUnit.{RawUnit}
use Rattle.asl_syntax.specs.declared.subtree.Subtrees.{Subtrees}
use Rattle.asl_syntax.specs.declared.mark.Mark.{Mark}
use Rattle.asl_parser.specs.declared.state.ParserState.TheVariants as st
use Rattle.asl_parser.specs.declared.reader.Syntax.{Syntax}
use Rattle.asl_parser.specs.declared.reader.Syntax.TheVariants as e
use Rattle.asl_syntax.specs.Marks.{marks}
use Rattle.asl_syntax.specs.Trees.{Trees}
use Rattle.asl_syntax.specs.Grow.{limit, at_depth, or_else, grown_all}
use Rattle.asl_syntax.specs.Frames.{start}
use Rattle.asl_parser.specs.Machine.{Answer, source, stop, deep, run, reading}
use Rattle.asl_parser.specs.Grammar.{IsSource, Spells}
use Rattle.asl_parser.specs.Depth.{IsShallow, IsLow, opens, grows}
use Rattle.asl_parser.specs.Parse.{HasOutcome, Fails, ParseOutcome, read, stopped, sunk, tall, grown_to, outcome_by, outcome}
use Rattle.asl_parser.proofs.Walks.{length-marks}
use Rattle.asl_parser.proofs.Complete.{spelled_is_read, NotDeep}
use Rattle.asl_parser.proofs.Sound.{read_is_spelled}
use Rattle.asl_parser.proofs.Stops.{is_longest_front}
use Rattle.asl_parser.proofs.Deep.{limited_source, limited_stop, is_too_deep, is_shallow}
use Rattle.asl_syntax.proofs.Heights.{kept_raws, kept_none, tall_node}

-- ---- from an outcome to an answer

-- trees that were read, and what is left of them
record IsRead (a : Answer) (items : List Raw) : Type 0 where
  trees : Subtrees
  is : a ≡ source trees
  kept : trees.raws ≡ Some items

record IsTall (a : Answer) (k : ℕ) : Type 0 where
  trees : Subtrees
  is : a ≡ source trees
  cut : trees.raws ≡ None
  at : or_else 0 (at_depth (suc limit) trees.levels) ≡ k

abbrev Comes : Answer → ParseOutcome → Type 0
Comes a (read items) = IsRead a items
Comes a (stopped rest) = a ≡ stop rest
Comes a (sunk rest) = a ≡ deep rest
Comes a (tall k) = IsTall a k

comes_grown : (trees : Subtrees) (o : Option (List Raw)) → trees.raws ≡ o → Comes (source trees) (grown_to trees o)
comes_grown trees (Some items) e = record { trees = trees; is = refl; kept = e }
comes_grown trees None e = record { trees = trees; is = refl; cut = e; at = refl }

comes : (a : Answer) → Comes a (outcome_by a)
comes (source trees) = comes_grown trees trees.raws refl
comes (stop rest) = refl
comes (deep rest) = refl

comes_to : (tokens : List Token) (o : ParseOutcome) → outcome tokens ≡ o → Comes (reading (marks 0 tokens)) o
unfolding outcome
comes_to tokens o e = subst (Comes (reading (marks 0 tokens))) e (comes (reading (marks 0 tokens)))

-- ---- what is found

one_of : (ms : List Mark) (b : Subtrees) (xs ys : Trees) → run ms st.Sequence start ≡ source b → IsSource xs ms → grown_all xs ≡ b
one_of ms b xs ys e spelled = let both : source (grown_all xs) ≡ source b = sym (spelled_is_read xs ms spelled) ∙ e in cc

shallow_at : (ms : List Mark) (a : Answer) → reading ms ≡ a → NotDeep a → IsShallow limit ms
unfolding reading
shallow_at ms a e n = is_shallow limit ms (subst NotDeep (sym e) n)

source_of : (ms : List Mark) (b : Subtrees) → reading ms ≡ source b → run ms st.Sequence start ≡ source b
unfolding reading
source_of ms b e = limited_source limit ms b e

found_items : (tokens : List Token) (items : List Raw) → IsRead (reading (marks 0 tokens)) items → Spells items tokens × IsShallow limit (marks 0 tokens) × IsLow limit (marks 0 tokens)
found_items tokens items r =
    let ms = marks 0 tokens in
    let ran = source_of ms r.trees r.is in
    let told = read_is_spelled r.trees ms ran in
    let kept : (grown_all told.trees).raws ≡ Some items = ap (λ (b : Subtrees). b.raws) told.are ∙ r.kept in
    let low : IsLow limit ms = λ trees spelled. kept_none trees items (ap (λ (b : Subtrees). b.raws) (one_of ms r.trees trees trees ran spelled) ∙ r.kept) in
    (record { trees = told.trees; source = told.source; are = kept_raws told.trees items kept }, shallow_at ms (source r.trees) r.is tt, low)

pub is_spelled : (tokens : List Token) (r : Result RawUnit Syntax) → HasOutcome r tokens (outcome tokens) → IfOk r (λ unit. Spells unit.items tokens)
is_spelled tokens (Ok unit) a = (found_items tokens unit.items (comes_to tokens (read unit.items) a)).0
is_spelled tokens (Err x) a = tt

pub is_not_deep : (tokens : List Token) (r : Result RawUnit Syntax) → HasOutcome r tokens (outcome tokens) → OnOk r (IsShallow limit (marks 0 tokens) × IsLow limit (marks 0 tokens))
is_not_deep tokens (Ok unit) a = let found = found_items tokens unit.items (comes_to tokens (read unit.items) a) in (found.1, found.2)
is_not_deep tokens (Err x) a = tt

one_items : (tokens : List Token) (items others : List Raw) → IsRead (reading (marks 0 tokens)) items → Spells others tokens → others ≡ items
one_items tokens items others r spelled =
    let ms = marks 0 tokens in
    let same : grown_all spelled.trees ≡ r.trees = one_of ms r.trees spelled.trees spelled.trees (source_of ms r.trees r.is) spelled.source in
    let kept : (grown_all spelled.trees).raws ≡ Some items = ap (λ (b : Subtrees). b.raws) same ∙ r.kept in
    spelled.are ∙ sym (kept_raws spelled.trees items kept)

pub is_one : (tokens : List Token) (r : Result RawUnit Syntax) → HasOutcome r tokens (outcome tokens) → IfOk r (λ unit. (others : List Raw) → Spells others tokens → others ≡ unit.items)
is_one tokens (Ok unit) a = λ others spelled. one_items tokens unit.items others (comes_to tokens (read unit.items) a) spelled
is_one tokens (Err x) a = tt

-- ---- why there is no tree

stop_at : (tokens : List Token) (k : ℕ) → k ≤ length tokens → reading (marks 0 tokens) ≡ stop (drop k (marks 0 tokens)) → Fails (e.Stop k) tokens
unfolding reading
stop_at tokens k within is =
    let ms = marks 0 tokens in
    (is_longest_front ms k (omega (arith, length-marks 0 tokens)) (limited_stop limit ms (drop k ms) is), is_shallow limit ms (subst NotDeep (sym is) tt))

sunk_at : (tokens : List Token) (k : ℕ) → k < length tokens → reading (marks 0 tokens) ≡ deep (drop (suc k) (marks 0 tokens)) → Fails (e.TooDeep k) tokens
unfolding reading
sunk_at tokens k within is = opens (is_too_deep limit (marks 0 tokens) k (omega (arith, length-marks 0 tokens)) is)

tall_at : (tokens : List Token) (k : ℕ) → IsTall (reading (marks 0 tokens)) k → Fails (e.TooDeep k) tokens
tall_at tokens k r =
    let ms = marks 0 tokens in
    let told = read_is_spelled r.trees ms (source_of ms r.trees r.is) in
    let cut : (grown_all told.trees).raws ≡ None = ap (λ (b : Subtrees). b.raws) told.are ∙ r.cut in
    let at : or_else 0 (at_depth (suc limit) (grown_all told.trees).levels) ≡ k = ap (λ (b : Subtrees). or_else 0 (at_depth (suc limit) b.levels)) told.are ∙ r.at in
    grows (record { shallow = shallow_at ms (source r.trees) r.is tt; trees = told.trees; source = told.source; node = tall_node told.trees cut ∙ ap Some at })

deep_at : (tokens : List Token) (k : ℕ) → ((k < length tokens) × (outcome tokens ≡ sunk (drop (suc k) (marks 0 tokens)))) ⊎ (outcome tokens ≡ tall k) → Fails (e.TooDeep k) tokens
deep_at tokens k (inl a) = sunk_at tokens k a.0 (comes_to tokens (sunk (drop (suc k) (marks 0 tokens))) a.1)
deep_at tokens k (inr a) = tall_at tokens k (comes_to tokens (tall k) a)

pub is_fault : (tokens : List Token) (r : Result RawUnit Syntax) → HasOutcome r tokens (outcome tokens) → IfErr r (λ x. Fails x tokens)
is_fault tokens (Ok unit) a = tt
is_fault tokens (Err (e.Stop k)) a = stop_at tokens k a.0 (comes_to tokens (stopped (drop k (marks 0 tokens))) a.1)
is_fault tokens (Err (e.TooDeep k)) a = deep_at tokens k a
is_fault tokens (Err e.Memory) a = tt
