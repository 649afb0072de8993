-- Numbers of 64 bits at the size of a line, and the lengths of values.
use Rattle.std.proofs.Common.{◌≡◌, ◌≤◌, ◌<◌, ◌*◌, ◌%◌, ◌^◌, ℕ, List, length, Option, Some, None, refl, ap, ◌∙◌, arith}
use Rattle.std.specs.Option.{option_map}
use Rattle.std.proofs.Math.Nat.{mod-eq_of_lt}
use Rattle.std.proofs.Math.Pow.{pow_mono}

-- 8 bytes and more have room for each
pub whole : (width number : ℕ) → 8 ≤ width → number < 2 ^ 64 → number % 2 ^ (8 * width) ≡ number
whole width number w h =
    let p : 2 ^ 64 ≤ 2 ^ (8 * width) = pow_mono {i = 64} {j = 8 * width} (omega arith) in
    mod-eq_of_lt (omega (arith, p, h))

map_twice : {A : Type 0} (f : A → List ℕ) (found : Option A) → option_map length (option_map f found) ≡ option_map (λ value. length (f value)) found
map_twice f None = refl
map_twice f (Some value) = refl

-- the length of the bytes of a value that is found
pub length_is : {A : Type 0} (f : A → List ℕ) (value : Option A) (bytes : Option (List ℕ)) (size : Option ℕ) → bytes ≡ option_map f value → size ≡ option_map length bytes → size ≡ option_map (λ v. length (f v)) value
length_is f value bytes size e g = g ∙ ap (option_map length) e ∙ map_twice f value
