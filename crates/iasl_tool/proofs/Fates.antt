-- What tokens come to, by relations: a source, a place where they stop being one, or a token where they nest too deep.
use Rattle.std.proofs.Common.{◌≡◌, ℕ, suc, ◌<◌, ◌≤◌, ◌-◌, ◌⊎◌, inl, inr, nat_lt, true, false, List, length, drop, Option, Some, None, Ok, Err, refl, sym, ap, ◌∙◌, subst, arith}
use Rattle.std.proofs.lemmas.Bool.Decides.{nat_tests}
use Rattle.std.proofs.lemmas.List.{length-append, length-drop}
use Rattle.std.proofs.Math.Seq.{drop-append_seam}
use Rattle.asl_lexer.specs.declared.token.Token.{Token}
use Rattle.asl_syntax.specs.declared.raw.Raw.{Raw}
use Rattle.asl_syntax.specs.declared.subtree.Subtrees.{Subtrees}
use Rattle.asl_parser.specs.declared.state.ParserState.TheVariants as st
use Rattle.asl_syntax.specs.declared.mark.Mark.{Mark}
use Rattle.asl_parser.specs.declared.reader.Syntax.TheVariants as x
use Rattle.asl_parser.specs.Front.{IsLongestFront}
use Rattle.asl_parser.specs.Depth.{IsShallow, IsLow, OpensTooMuch, IsTooTall, IsTooDeep, opens, grows}
use Rattle.asl_parser.specs.Grammar.{Spells}
use Rattle.asl_syntax.specs.Grow.{limit, at_depth, or_else, grown_all}
use Rattle.asl_syntax.specs.Frames.{start}
use Rattle.asl_parser.specs.Machine.{Answer, source, stop, deep, reading}
use Rattle.asl_syntax.specs.Marks.{marks}
use Rattle.asl_parser.specs.Parse.{ParseOutcome, read, stopped, sunk, tall, grown_to, outcome_by, outcome}
use Rattle.asl_syntax.specs.Trees.{Trees, nodes_of, first_below}
use Rattle.asl_parser.proofs.Complete.{spelled_is_read}
use Rattle.asl_parser.proofs.Deep.{limited_stop}
use Rattle.asl_syntax.proofs.Heights.{kept_none, tall_node}
use Rattle.asl_parser.proofs.Stops.{stops}
use Rattle.asl_parser.proofs.Told.{is_spelled, is_not_deep, is_fault}
use Rattle.asl_parser.proofs.Walks.{length-marks}
use Rattle.iasl_tool.proofs.Readings.{below_start}

-- ---- where a reading ends

not_stopped : (trees : Subtrees) (o : Option (List Raw)) (rest : List Mark) → grown_to trees o ≡ stopped rest → ⊥
not_stopped trees (Some items) rest e = absurd cc
not_stopped trees None rest e = absurd cc

not_sunk : (trees : Subtrees) (o : Option (List Raw)) (rest : List Mark) → grown_to trees o ≡ sunk rest → ⊥
not_sunk trees (Some items) rest e = absurd cc
not_sunk trees None rest e = absurd cc

from_stopped : (a : Answer) (rest : List Mark) → outcome_by a ≡ stopped rest → a ≡ stop rest
from_stopped (source trees) rest e = absurd (not_stopped trees trees.raws rest e)
from_stopped (stop others) rest e = let same : others ≡ rest = cc in ap stop same
from_stopped (deep others) rest e = absurd cc

from_sunk : (a : Answer) (rest : List Mark) → outcome_by a ≡ sunk rest → a ≡ deep rest
from_sunk (source trees) rest e = absurd (not_sunk trees trees.raws rest e)
from_sunk (stop others) rest e = absurd cc
from_sunk (deep others) rest e = let same : others ≡ rest = cc in ap deep same

-- the place of a stop
record StopsAt (tokens : List Token) (rest : List Mark) : Type 0 where
  k : ℕ
  inside : k ≤ length tokens
  are : rest ≡ drop k (marks 0 tokens)

stops_at : (tokens : List Token) (rest : List Mark) → outcome tokens ≡ stopped rest → StopsAt tokens rest
unfolding outcome reading
stops_at tokens rest e =
    let ms = marks 0 tokens in
    let s = stops ms st.Sequence start rest (limited_stop limit ms rest (from_stopped (reading ms) rest e)) in
    record {
      k = length s.front;
      inside = omega (arith, ap length s.parts, length-append s.front rest, length-marks 0 tokens);
      are = sym (drop-append_seam s.front rest) ∙ ap (drop (length s.front)) (sym s.parts);
    }

sinks_at : (tokens : List Token) (rest : List Mark) → outcome tokens ≡ sunk rest → (k : ℕ) × (k < length (marks 0 tokens)) × (rest ≡ drop (suc k) (marks 0 tokens))
unfolding outcome reading
sinks_at tokens rest e = below_start (marks 0 tokens) rest (from_sunk (reading (marks 0 tokens)) rest e)

-- ---- what tokens come to

pub data Fate (tokens : List Token) : ParseOutcome → Type 0 where
  is_read : (items : List Raw) → Spells items tokens → IsShallow limit (marks 0 tokens) → IsLow limit (marks 0 tokens) → Fate tokens (read items)
  is_stopped : (k : ℕ) → IsLongestFront (marks 0 tokens) k → IsShallow limit (marks 0 tokens) → Fate tokens (stopped (drop k (marks 0 tokens)))
  is_sunk : (k : ℕ) → k < length tokens → IsTooDeep limit (marks 0 tokens) k → Fate tokens (sunk (drop (suc k) (marks 0 tokens)))
  is_tall : (k : ℕ) → IsTooDeep limit (marks 0 tokens) k → Fate tokens (tall k)

pub fate : (tokens : List Token) → Fate tokens (outcome tokens)
fate tokens = by (outcome tokens) refl
  where
    by : (o : ParseOutcome) → outcome tokens ≡ o → Fate tokens o
    by (read items) e =
        let low = is_not_deep tokens (Ok (record { items = items })) e in
        is_read items (is_spelled tokens (Ok (record { items = items })) e) low.0 low.1
    by (stopped rest) e =
        let s = stops_at tokens rest e in
        let f = is_fault tokens (Err (x.Stop s.k)) (s.inside, e ∙ ap stopped s.are) in
        subst (λ (r : List Mark). Fate tokens (stopped r)) (sym s.are) (is_stopped s.k f.0 f.1)
    by (sunk rest) e =
        let s = sinks_at tokens rest e in
        let lt : s.0 < length tokens = omega (arith, s.1, length-marks 0 tokens) in
        let f = is_fault tokens (Err (x.TooDeep s.0)) (inl (lt, e ∙ ap sunk s.2)) in
        subst (λ (r : List Mark). Fate tokens (sunk r)) (sym s.2) (is_sunk s.0 lt f)
    by (tall k) e = is_tall k (is_fault tokens (Err (x.TooDeep k)) (inr e))

-- ---- there is one place

-- neither is below the other
same_place : (k n : ℕ) → (k < n → ⊥) → (n < k → ⊥) → k ≡ n
same_place k n above below =
    elim (nat_lt k n) as (λ b. nat_lt k n ≡ b → k ≡ n) [
      | true ↦ λ e. absurd (above (grind (arith, nat_tests)))
      | false ↦ λ e.
          elim (nat_lt n k) as (λ b. nat_lt n k ≡ b → k ≡ n) [
            | true ↦ λ f. absurd (below (grind (arith, nat_tests)))
            | false ↦ λ f. grind (arith, nat_tests)
          ] refl
    ] refl

front_once : (ms : List Mark) (k n : ℕ) → IsLongestFront ms k → IsLongestFront ms n → k ≡ n
front_once ms k n a b = same_place k n (λ lt. a.longest n lt b.within b.front) (λ lt. b.longest k lt a.within a.front)

opens_once : (ms : List Mark) (k n : ℕ) → OpensTooMuch limit ms k → OpensTooMuch limit ms n → k ≡ n
opens_once ms k n a b = same_place k n (λ lt. b.first (suc k) (omega (arith, lt)) a.deeper) (λ lt. a.first (suc n) (omega (arith, lt)) b.deeper)

abbrev number_of : Trees → ℕ
number_of trees = or_else 0 (at_depth (suc limit) (grown_all trees).levels)

node_is : (trees : Trees) (k : ℕ) → first_below limit (nodes_of 0 trees) ≡ Some k → number_of trees ≡ k
node_is trees k node = by (grown_all trees).raws refl
  where
    by : (o : Option (List Raw)) → (grown_all trees).raws ≡ o → number_of trees ≡ k
    by (Some items) e = let both : Some k ≡ None = sym node ∙ kept_none trees items e in absurd cc
    by None e = let both : Some (number_of trees) ≡ Some k = sym (tall_node trees e) ∙ node in cc

tall_once : (ms : List Mark) (k n : ℕ) → IsTooTall limit ms k → IsTooTall limit ms n → k ≡ n
tall_once ms k n a b =
    let both : source (grown_all a.trees) ≡ source (grown_all b.trees) = sym (spelled_is_read a.trees ms a.source) ∙ spelled_is_read b.trees ms b.source in
    let same : grown_all a.trees ≡ grown_all b.trees = one (grown_all a.trees) (grown_all b.trees) both in
    sym (node_is a.trees k a.node) ∙ ap (λ (t : Subtrees). or_else 0 (at_depth (suc limit) t.levels)) same ∙ node_is b.trees n b.node
  where
    one : (s t : Subtrees) → source s ≡ source t → s ≡ t
    one s t e = cc

deep_once : (ms : List Mark) (k n : ℕ) → IsTooDeep limit ms k → IsTooDeep limit ms n → k ≡ n
deep_once ms k n (opens a) (opens b) = opens_once ms k n a b
deep_once ms k n (opens a) (grows b) = absurd (b.shallow (suc k) a.deeper)
deep_once ms k n (grows a) (opens b) = absurd (a.shallow (suc n) b.deeper)
deep_once ms k n (grows a) (grows b) = tall_once ms k n a b

-- what is no source and nowhere too deep is not too deep
neither_deep : (ms : List Mark) (k n : ℕ) → IsLongestFront ms k → IsShallow limit ms → IsTooDeep limit ms n → ⊥
neither_deep ms k n front shallow (opens a) = shallow (suc n) a.deeper
neither_deep ms k n front shallow (grows a) = front.no_source a.trees a.source

-- nor is a source that is nowhere too deep
low_enough : (ms : List Mark) (n : ℕ) → IsShallow limit ms → IsLow limit ms → IsTooDeep limit ms n → ⊥
low_enough ms n shallow low (opens a) = shallow (suc n) a.deeper
low_enough ms n shallow low (grows a) = let both : Some n ≡ None = sym a.node ∙ low a.trees a.source in none both
  where
    none : Some n ≡ None → ⊥
    none e = absurd cc

module _ (tokens : List Token) (k : ℕ) where
  stop_by : (o : ParseOutcome) → IsLongestFront (marks 0 tokens) k → IsShallow limit (marks 0 tokens) → Fate tokens o → o ≡ stopped (drop k (marks 0 tokens))
  stop_by o front shallow (is_read items spelled s low) = absurd (front.no_source spelled.trees spelled.source)
  stop_by o front shallow (is_stopped n other s) = ap (λ (i : ℕ). stopped (drop i (marks 0 tokens))) (front_once (marks 0 tokens) n k other front)
  stop_by o front shallow (is_sunk n lt d) = absurd (neither_deep (marks 0 tokens) k n front shallow d)
  stop_by o front shallow (is_tall n d) = absurd (neither_deep (marks 0 tokens) k n front shallow d)

  -- tokens stop being a source at their longest front
  pub stop_is : IsLongestFront (marks 0 tokens) k → IsShallow limit (marks 0 tokens) → outcome tokens ≡ stopped (drop k (marks 0 tokens))
  stop_is front shallow = stop_by (outcome tokens) front shallow (fate tokens)

  deep_by : (o : ParseOutcome) → IsTooDeep limit (marks 0 tokens) k → Fate tokens o → ((k < length tokens) × (o ≡ sunk (drop (suc k) (marks 0 tokens)))) ⊎ (o ≡ tall k)
  deep_by o d (is_read items spelled shallow low) = absurd (low_enough (marks 0 tokens) k shallow low d)
  deep_by o d (is_stopped n front shallow) = absurd (neither_deep (marks 0 tokens) n k front shallow d)
  deep_by o d (is_sunk n lt other) =
      let same : n ≡ k = deep_once (marks 0 tokens) n k other d in
      inl (subst (λ (i : ℕ). i < length tokens) same lt, ap (λ (i : ℕ). sunk (drop (suc i) (marks 0 tokens))) same)
  deep_by o d (is_tall n other) = inr (ap tall (deep_once (marks 0 tokens) n k other d))

  -- and they nest too deep at the token that does
  pub deep_is : IsTooDeep limit (marks 0 tokens) k → ((k < length tokens) × (outcome tokens ≡ sunk (drop (suc k) (marks 0 tokens)))) ⊎ (outcome tokens ≡ tall k)
  deep_is d = deep_by (outcome tokens) d (fate tokens)

-- how many tokens stand before what is left
pub stop_number : (tokens : List Token) (k : ℕ) → k ≤ length tokens → length tokens - length (drop k (marks 0 tokens)) ≡ k
stop_number tokens k h = omega (arith, h, length-drop k (marks 0 tokens), length-marks 0 tokens)

pub deep_number : (tokens : List Token) (k : ℕ) → k < length tokens → length tokens - suc (length (drop (suc k) (marks 0 tokens))) ≡ k
deep_number tokens k h = omega (arith, h, length-drop (suc k) (marks 0 tokens), length-marks 0 tokens)

pub front_within : (tokens : List Token) (k : ℕ) → IsLongestFront (marks 0 tokens) k → k ≤ length tokens
front_within tokens k front = omega (arith, front.within, length-marks 0 tokens)
