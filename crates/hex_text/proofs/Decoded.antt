-- Two digits as the kit's `hex` reads them.
use Rattle.std.proofs.Common.{◌≡◌, ℕ, ◌+◌, ◌*◌, List, [], ◌∷◌, Option, Some, None, Result, Ok, Err, refl, get_or, ap}
use Rattle.std.specs.Option.{option_map}
use Rattle.std.specs.Result.{result_ok, MatchResult}
use Rattle.hex.specs.Hex.{decode_sized, decode_pairs, hex_digit_value, value_at, digit_or_error, ◌>>=◌}
use Rattle.hex.specs.declared.error.FromHexError.{FromHexError}
use Rattle.hex_text.specs.Digits.{byte_of, byte_of_digits}

pub decode_two : (high low : ℕ) → result_ok (decode_sized (high ∷ low ∷ []) 1) ≡ option_map (λ byte. byte ∷ []) (byte_of high low)
unfolding decode_pairs
decode_two high low =
    elim (hex_digit_value high) as (λ h. result_ok (((digit_or_error high 0 h >>= λ v. value_at low 1 >>= λ w. Ok (v * 16 + w)) >>= λ byte. Ok (byte ∷ [])))
    ≡ option_map (λ byte. byte ∷ []) (byte_of_digits h (hex_digit_value low))) [
      | None ↦ refl
      | Some v ↦ elim (hex_digit_value low) as (λ l. result_ok ((digit_or_error low 1 l >>= λ w. Ok (v * 16 + w)) >>= λ byte. Ok (byte ∷ []))
          ≡ option_map (λ byte. byte ∷ []) (byte_of_digits (Some v) l)) [ None ↦ refl | Some w ↦ refl ]
    ]

single : (bytes out : List ℕ) (found : Option ℕ) → Some bytes ≡ option_map (λ byte. byte ∷ []) found → out ≡ bytes → Some (get_or out 0 0) ≡ found
single bytes out None d e = absurd cc
single bytes out (Some byte) d e = let f : out ≡ byte ∷ [] = cc in ap (λ (l : List ℕ). Some (get_or l 0 0)) f

none : (found : Option ℕ) → None ≡ option_map (λ byte. byte ∷ []) found → None ≡ found
none None d = refl
none (Some byte) d = absurd cc

-- what a call of `hex` that answers `answer` says of two digits
abbrev pub Told : Result (Unit {0}) FromHexError → ℕ → ℕ → List ℕ → Type 0
Told answer high low out = MatchResult (decode_sized (high ∷ low ∷ []) 1) (λ bytes. (answer ≡ Ok tt) × (out ≡ bytes)) (λ e. answer ≡ Err e)

pub byte_found : (u : Unit {0}) (high low : ℕ) (out : List ℕ) → Told (Ok u) high low out → Some (get_or out 0 0) ≡ byte_of high low
byte_found u high low out h =
    elim (decode_sized (high ∷ low ∷ []) 1) as (λ r. result_ok r ≡ option_map (λ byte. byte ∷ []) (byte_of high low) → MatchResult r (λ bytes. (◌≡◌ {A = Result (Unit {0}) FromHexError} (Ok u) (Ok tt)) × (out ≡ bytes)) (λ e. ◌≡◌ {A = Result (Unit {0}) FromHexError} (Ok u) (Err e)) → Some (get_or out 0 0) ≡ byte_of high low) [
      | Ok bytes ↦ λ d k. single bytes out (byte_of high low) d k.1
      | Err e ↦ λ d k. absurd cc
    ] (decode_two high low) h

pub no_byte : (f : FromHexError) (high low : ℕ) (out : List ℕ) → Told (Err f) high low out → None ≡ byte_of high low
no_byte f high low out h =
    elim (decode_sized (high ∷ low ∷ []) 1) as (λ r. result_ok r ≡ option_map (λ byte. byte ∷ []) (byte_of high low) → MatchResult r (λ bytes. (◌≡◌ {A = Result (Unit {0}) FromHexError} (Err f) (Ok tt)) × (out ≡ bytes)) (λ e. ◌≡◌ {A = Result (Unit {0}) FromHexError} (Err f) (Err e)) → None ≡ byte_of high low) [
      | Ok bytes ↦ λ d k. let h : ◌≡◌ {A = Result (Unit {0}) FromHexError} (Err f) (Ok tt) = k.0 in absurd cc
      | Err e ↦ λ d k. none (byte_of high low) d
    ] (decode_two high low) h
