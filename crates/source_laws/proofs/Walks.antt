-- One walk over the bytes of lines, which says what each stands in.
use Rattle.std.proofs.Common.{◌≡◌, ℕ, Bool, true, false, cond, List, [], ◌∷◌, ◌++◌, refl, ap, ◌∙◌}
use Rattle.std.specs.Prelude.{◌==◌}
use Rattle.source_laws.specs.Sights.{Sight, InString, InComment, Elsewhere, each}

-- where a byte stands: between all parts; in a string, and behind a backslash there; in a comment to the line's end; at the
-- star of a block comment's opening; in a block comment, and behind a star there
pub data Where : Type 0 where
  between string protected line opening block star : Where

-- a slash opens a comment by what stands behind it
abbrev pub slash_sight : List ℕ → Sight
slash_sight [] = Elsewhere
slash_sight (c ∷ cs) = cond (c == 47) InComment (cond (c == 42) InComment Elsewhere)

abbrev pub behind_slash : List ℕ → Where
behind_slash [] = between
behind_slash (c ∷ cs) = cond (c == 47) line (cond (c == 42) opening between)

-- what the byte stands in, and where the next one stands
abbrev pub sight : Where → ℕ → List ℕ → Sight
sight between b bs = cond (b == 34) InString (cond (b == 47) (slash_sight bs) Elsewhere)
sight string b bs = cond (b == 10) Elsewhere InString
sight protected b bs = cond (b == 10) Elsewhere InString
sight line b bs = cond (b == 10) Elsewhere InComment
sight opening b bs = InComment
sight block b bs = InComment
sight star b bs = InComment

abbrev pub after : Where → ℕ → List ℕ → Where
after between b bs = cond (b == 34) string (cond (b == 47) (behind_slash bs) between)
after string b bs = cond (b == 10) between (cond (b == 34) between (cond (b == 92) protected string))
after protected b bs = cond (b == 10) between string
after line b bs = cond (b == 10) between line
after opening b bs = block
after block b bs = cond (b == 42) star block
after star b bs = cond (b == 47) between (cond (b == 42) star block)

abbrev pub walk : Where → List ℕ → List Sight
walk at [] = []
walk at (b ∷ bs) = sight at b bs ∷ walk (after at b bs) bs

-- a byte by which nothing begins
pub plain_on : (b : ℕ) (bs : List ℕ) → (b == 34) ≡ false → (b == 47) ≡ false → walk between (b ∷ bs) ≡ Elsewhere ∷ walk between bs
plain_on b bs no_quote no_slash =
    ap (λ t. cond t InString (cond (b == 47) (slash_sight bs) Elsewhere) ∷ walk (cond t string (cond (b == 47) (behind_slash bs) between)) bs) no_quote
    ∙ ap (λ t. cond t (slash_sight bs) Elsewhere ∷ walk (cond t (behind_slash bs) between) bs) no_slash

pub quote_on : (b : ℕ) (bs : List ℕ) → (b == 34) ≡ true → walk between (b ∷ bs) ≡ InString ∷ walk string bs
quote_on b bs is = ap (λ t. cond t InString (cond (b == 47) (slash_sight bs) Elsewhere) ∷ walk (cond t string (cond (b == 47) (behind_slash bs) between)) bs) is

pub slash_on : (b : ℕ) (bs : List ℕ) → (b == 34) ≡ false → (b == 47) ≡ true → walk between (b ∷ bs) ≡ slash_sight bs ∷ walk (behind_slash bs) bs
slash_on b bs no_quote is =
    ap (λ t. cond t InString (cond (b == 47) (slash_sight bs) Elsewhere) ∷ walk (cond t string (cond (b == 47) (behind_slash bs) between)) bs) no_quote
    ∙ ap (λ t. cond t (slash_sight bs) Elsewhere ∷ walk (cond t (behind_slash bs) between) bs) is

-- a slash that opens no comment
pub slash_alone : (b : ℕ) (bs : List ℕ) → (b == 34) ≡ false → (b == 47) ≡ true → slash_sight bs ≡ Elsewhere → behind_slash bs ≡ between → walk between (b ∷ bs) ≡ Elsewhere ∷ walk between bs
slash_alone b bs no_quote is e f = slash_on b bs no_quote is ∙ ap (λ s. s ∷ walk (behind_slash bs) bs) e ∙ ap (λ at. Elsewhere ∷ walk at bs) f

pub no_second : (c : ℕ) (cs : List ℕ) → (c == 47) ≡ false → (c == 42) ≡ false → (slash_sight (c ∷ cs) ≡ Elsewhere) × (behind_slash (c ∷ cs) ≡ between)
no_second c cs no_slash no_star = (
  ap (λ t. cond t InComment (cond (c == 42) InComment Elsewhere)) no_slash ∙ ap (λ t. cond t InComment Elsewhere) no_star,
  ap (λ t. cond t line (cond (c == 42) opening between)) no_slash ∙ ap (λ t. cond t opening between) no_star,
)

-- `//`
pub line_on : (b c : ℕ) (bs : List ℕ) → (b == 34) ≡ false → (b == 47) ≡ true → (c == 47) ≡ true → walk between (b ∷ c ∷ bs) ≡ InComment ∷ walk line (c ∷ bs)
line_on b c bs no_quote is second =
    slash_on b (c ∷ bs) no_quote is ∙ ap (λ t. cond t InComment (cond (c == 42) InComment Elsewhere) ∷ walk (cond t line (cond (c == 42) opening between)) (c ∷ bs)) second

-- `/*`
pub block_on : (b c : ℕ) (bs : List ℕ) → (b == 34) ≡ false → (b == 47) ≡ true → (c == 47) ≡ false → (c == 42) ≡ true → walk between (b ∷ c ∷ bs) ≡ InComment ∷ InComment ∷ walk block bs
block_on b c bs no_quote is no_slash second =
    slash_on b (c ∷ bs) no_quote is ∙ ap (λ t. cond t InComment (cond (c == 42) InComment Elsewhere) ∷ walk (cond t line (cond (c == 42) opening between)) (c ∷ bs)) no_slash
    ∙ ap (λ t. cond t InComment Elsewhere ∷ walk (cond t opening between) (c ∷ bs)) second

-- in a comment to the line's end
pub comment_on : (b : ℕ) (bs : List ℕ) → (b == 10) ≡ false → walk line (b ∷ bs) ≡ InComment ∷ walk line bs
comment_on b bs no_end = ap (λ t. cond t Elsewhere InComment ∷ walk (cond t between line) bs) no_end

-- in a string
abbrev pub quoted : Bool → Where
quoted true = protected
quoted false = string

pub protected_on : (b : ℕ) (bs : List ℕ) → (b == 10) ≡ false → walk protected (b ∷ bs) ≡ InString ∷ walk string bs
protected_on b bs no_end = ap (λ t. cond t Elsewhere InString ∷ walk (cond t between string) bs) no_end

quoted_is : (t : Bool) (bs : List ℕ) → walk (cond t protected string) bs ≡ walk (quoted t) bs
quoted_is true bs = refl
quoted_is false bs = refl

pub string_on : (b : ℕ) (bs : List ℕ) → (b == 10) ≡ false → (b == 34) ≡ false → walk string (b ∷ bs) ≡ InString ∷ walk (quoted (b == 92)) bs
string_on b bs no_end no_quote =
    ap (λ t. cond t Elsewhere InString ∷ walk (cond t between (cond (b == 34) between (cond (b == 92) protected string))) bs) no_end
    ∙ ap (λ t. InString ∷ walk (cond t between (cond (b == 92) protected string)) bs) no_quote ∙ ap (λ l. InString ∷ l) (quoted_is (b == 92) bs)

pub string_ends : (b : ℕ) (bs : List ℕ) → (b == 10) ≡ false → (b == 34) ≡ true → walk string (b ∷ bs) ≡ InString ∷ walk between bs
string_ends b bs no_end is =
    ap (λ t. cond t Elsewhere InString ∷ walk (cond t between (cond (b == 34) between (cond (b == 92) protected string))) bs) no_end
    ∙ ap (λ t. InString ∷ walk (cond t between (cond (b == 92) protected string)) bs) is

-- in a block comment
abbrev pub starred : Bool → Where
starred true = star
starred false = block

starred_is : (t : Bool) (bs : List ℕ) → walk (cond t star block) bs ≡ walk (starred t) bs
starred_is true bs = refl
starred_is false bs = refl

-- a byte that does not close it
pub block_goes : (s : Bool) (b : ℕ) (bs : List ℕ) → (s ≡ true → (b == 47) ≡ false) → walk (starred s) (b ∷ bs) ≡ InComment ∷ walk (starred (b == 42)) bs
block_goes false b bs h = ap (λ l. InComment ∷ l) (starred_is (b == 42) bs)
block_goes true b bs h = ap (λ t. InComment ∷ walk (cond t between (cond (b == 42) star block)) bs) (h refl) ∙ ap (λ l. InComment ∷ l) (starred_is (b == 42) bs)

pub block_ends : (b : ℕ) (bs : List ℕ) → (b == 47) ≡ true → walk star (b ∷ bs) ≡ InComment ∷ walk between bs
block_ends b bs is = ap (λ t. InComment ∷ walk (cond t between (cond (b == 42) star block)) bs) is

-- ---- the end of a line

-- no more bytes, or the end of a line
pub data AtEnd : List ℕ → Type 0 where
  at_end : AtEnd []
  at_break : (bs : List ℕ) → AtEnd (10 ∷ bs)

pub line_at_end : {bs : List ℕ} → AtEnd bs → walk line bs ≡ walk between bs
line_at_end at_end = refl
line_at_end (at_break bs) = refl

pub quoted_at_end : (p : Bool) {bs : List ℕ} → AtEnd bs → walk (quoted p) bs ≡ walk between bs
quoted_at_end true at_end = refl
quoted_at_end true (at_break bs) = refl
quoted_at_end false at_end = refl
quoted_at_end false (at_break bs) = refl

pub starred_at_end : (s : Bool) {bs : List ℕ} → AtEnd bs → walk (starred s) bs ≡ walk block bs
starred_at_end true at_end = refl
starred_at_end true (at_break bs) = refl
starred_at_end false at_end = refl
starred_at_end false (at_break bs) = refl

pub end_no_comment : {bs : List ℕ} → AtEnd bs → (slash_sight bs ≡ Elsewhere) × (behind_slash bs ≡ between)
end_no_comment at_end = (refl, refl)
end_no_comment (at_break bs) = (refl, refl)

pub each_on : {X : Type 0} (s : Sight) (xs ys : List X) → each s (xs ++ ys) ≡ each s xs ++ each s ys
each_on s [] ys = refl
each_on s (x ∷ xs) ys = ap (λ l. s ∷ l) (each_on s xs ys)
