-- What an option tells that is a value where a test holds, or where it doesn't. Assumes nothing.
use mathlib.Core.Path.{◌≡◌, refl}
use mathlib.Core.Bool.{Bool, true, false, cond}
use Prim.Native.Nat.{ℕ}
use native.Mathlib.Omega.{arith}
use Rattle.std.specs.Prelude.{Option, Some, None}

none_some : {A : Type 0} (r : Option A) (x : A) → r ≡ None → r ≡ Some x → ⊥
none_some r x e f = let z : ◌≡◌ {A = ℕ} 0 1 = cc in omega arith

module _ {A : Type 0} where
  some_is : (r : Option A) (x y : A) → r ≡ Some y → r ≡ Some x → y ≡ x
  some_is r x y e f = cc

  -- a value where it holds
  pub none_where : (t : Bool) (x : A) (r : Option A) → r ≡ cond t (Some x) None → r ≡ None → t ≡ false
  none_where true x r f e = absurd (none_some r x e f)
  none_where false x r f e = refl

  pub some_where : (t : Bool) (x y : A) (r : Option A) → r ≡ cond t (Some x) None → r ≡ Some y → (t ≡ true) × (y ≡ x)
  some_where true x y r f e = (refl, some_is r x y e f)
  some_where false x y r f e = absurd (none_some r y f e)

  -- and where it doesn't
  pub none_unless : (t : Bool) (x : A) (r : Option A) → r ≡ cond t None (Some x) → r ≡ None → t ≡ true
  none_unless true x r f e = refl
  none_unless false x r f e = absurd (none_some r x e f)

  pub some_unless : (t : Bool) (x y : A) (r : Option A) → r ≡ cond t None (Some x) → r ≡ Some y → (t ≡ false) × (y ≡ x)
  some_unless true x y r f e = absurd (none_some r y f e)
  some_unless false x y r f e = (refl, some_is r x y e f)
