-- How long the names of devices' nodes are.
use Rattle.std.proofs.Common.{◌≡◌, ℕ, ◌≤◌, Bool, true, false, leb, ◌&&◌, List, length, refl}
use Rattle.std.proofs.Common.{IsTrue, arith}
use Rattle.std.proofs.lemmas.Bool.Decides.{nat_tests}
use Rattle.xv_base.specs.Name.{is_dev_name}

both_left : (a b : Bool) → (a && b) ≡ true → a ≡ true
both_left true b h = refl
both_left false b h = cc

both_right : (a b : Bool) → (a && b) ≡ true → b ≡ true
both_right true b h = h
both_right false b h = cc

at_most : (n k : ℕ) → leb n k ≡ true → n ≤ k
at_most n k h = grind (arith, nat_tests)

-- the name of a device's node, as its printer takes it
pub dev_short : (dev : List ℕ) → IsTrue (is_dev_name dev) → length dev ≤ 63
unfolding is_dev_name
dev_short dev is =
    at_most (length dev) 63 (both_right _ _ (both_left _ _ is))
