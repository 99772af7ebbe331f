-- Arithmetic of the counts of blocks, over plain numbers: where it is asked for, little else is to be read.
use Rattle.std.proofs.Common.{Fits, w64, Vec, Global, ◌≡◌, ℕ, ◌+◌, ◌-◌, ◌^◌, ◌<◌, ◌≤◌, length, arith}
use Rattle.std.specs.Prelude.{vec_len, vec_capacity}

-- the length of a list that is kept
pub length-kept : {X : Type 0} (v : Vec X Global) → vec_len v ≡ length v.items
length-kept v = omega (arith, v.ok)

-- what a list holds fits in its memory, and that has a limit
pub length-within : {X : Type 0} (v : Vec X Global) → length v.items ≤ vec_capacity v
length-within v = omega (arith, v.ok)

pub capacity-within : {X : Type 0} (v : Vec X Global) → vec_capacity v < 2 ^ 64
capacity-within v = omega (arith, v.ok)

-- not more blocks are closed than there are
pub closed-fit : (left closed all count len : ℕ) → left + closed ≡ all → count ≡ all → len ≡ closed → len ≤ count
closed-fit left closed all count len fewer counted is = omega arith

-- the count after a change fits
pub count-fits : (left closed all places capacity opened count len len' : ℕ) → left + closed ≡ all → all ≤ places → places ≤ capacity → capacity < 2 ^ 64 → opened ≤ closed + (capacity - places) → count ≡ all → len ≡ closed → len' ≡ opened → Fits w64 (count - len + len')
count-fits left closed all places capacity opened count len len' fewer within small limit room counted is is' = omega arith

-- the count after a change: that of the blocks that are left and of those that are opened
pub count-after : (left closed all opened view count len len' : ℕ) → left + closed ≡ all → count ≡ all → len ≡ closed → len' ≡ opened → left + opened ≡ view → count - len + len' ≡ view
count-after left closed all opened view count len len' fewer counted is is' both = omega arith

-- there is a place for each opened value
pub places-fit : (opened closed places capacity : ℕ) → opened ≤ closed + (capacity - places) → places ≤ capacity → opened + places ≤ closed + capacity
places-fit opened closed places capacity room small = omega arith
