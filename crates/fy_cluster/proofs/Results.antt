-- what a refused or fallible call of a lower part tells
use Rattle.std.proofs.lemmas.Bool.{false≢true}
use Rattle.std.proofs.Common.{◌≡◌, Bool, true, false, Option, Some, None, Result, Ok, Err, IfErr, IsOk, MatchResult, ◌⊎◌, inl, inr, refl, sym, if◌then◌else◌}

pub ok_not_err : {T F : Type 0} (u : T) (f : F) → Ok u ≡ Err f → ⊥
ok_not_err u f e = cc

pub err_is : {T F : Type 0} (r : Result T F) (f g : F) → r ≡ Err f → r ≡ Err g → f ≡ g
err_is r f g d e = cc

pub some_not_none : {T : Type 0} (x : T) → Some x ≡ None → ⊥
some_not_none x e = cc

pub some_is_same : {T : Type 0} (x y : T) → Some x ≡ Some y → x ≡ y
some_is_same x y e = cc

-- of a call with a reason against it, which else fails by an allocation alone: an Ok had none, an
-- Err the reason or that failure
pub told : {T F : Type 0} (o : Option F) (memory : F) (result : Result T F) → ((f : F) → o ≡ Some f → result ≡ Err f) → (o ≡ None → IfErr result (λ f. f ≡ memory))
    → MatchResult result (λ u. o ≡ None) (λ f. (o ≡ Some f) ⊎ ((o ≡ None) × (f ≡ memory)))
told None memory (Ok u) past wants = refl
told None memory (Err f) past wants = inr (refl, wants refl)
told (Some g) memory (Ok u) past wants = absurd (ok_not_err u g (past g refl))
told (Some g) memory (Err f) past wants = inl (let e : f ≡ g = err_is (Err f) f g refl (past g refl) in rw e refl)

-- of a call that has no other reason: an Err has this one
pub told_all : {T F : Type 0} (o : Option F) (result : Result T F) → ((f : F) → o ≡ Some f → result ≡ Err f) → (o ≡ None → IsOk result)
    → MatchResult result (λ u. o ≡ None) (λ f. o ≡ Some f)
told_all None (Ok u) past fits = refl
told_all None (Err f) past fits = absurd (false≢true (fits refl))
told_all (Some g) (Ok u) past fits = absurd (ok_not_err u g (past g refl))
told_all (Some g) (Err f) past fits = let e : f ≡ g = err_is (Err f) f g refl (past g refl) in rw e refl

-- two reasons, in order
pub neither : {F : Type 0} (a b : Bool) (x y : F) → (if a then Some x else (if b then Some y else None)) ≡ None → (a ≡ false) × (b ≡ false)
neither true b x y e = absurd (some_not_none x e)
neither false true x y e = absurd (some_not_none y e)
neither false false x y e = (refl, refl)

pub either : {F : Type 0} (a b : Bool) (x y f : F) → (if a then Some x else (if b then Some y else None)) ≡ Some f → ((a ≡ true) × (f ≡ x)) ⊎ ((a ≡ false) × (b ≡ true) × (f ≡ y))
either true b x y f e = inl (refl, sym (some_is_same x f e))
either false true x y f e = inr (refl, refl, sym (some_is_same y f e))
either false false x y f e = absurd (some_not_none f (sym e))
