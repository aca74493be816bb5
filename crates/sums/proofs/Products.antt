-- The bound of a product is the product of its factors' bounds, written as the expression is. Assumes nothing.
use Rattle.std.proofs.Common.{ℕ, ◌*◌, ◌≤◌, mul-le-mul}

infixl 70 ◌⊗◌
pub ◌⊗◌ : {a b m n : ℕ} → a ≤ m → b ≤ n → a * b ≤ m * n
p ⊗ q = mul-le-mul p q
