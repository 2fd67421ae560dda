-- What a reading that came to its end, or to a fault, says of its steps.
use Rattle.std.proofs.Common.{◌≡◌, Bool, true, false, cond, ◌⊎◌, inl, inr, Result, Ok, Err, refl, ap}
use Rattle.lb_image.specs.declared.error.ImageFault.{ImageFault}
use Rattle.lb_image.specs.InternalReading.{◌>>=◌}

abbrev done : {A : Type 0} → A → Result A ImageFault
done x = Ok x

abbrev failed : {A : Type 0} → ImageFault → Result A ImageFault
failed e = Err e

pub ok_is : {A : Type 0} (x y : A) → done x ≡ done y → x ≡ y
ok_is x y e = cc

pub err_is : {A : Type 0} (d e : ImageFault) → failed {A = A} d ≡ failed {A = A} e → d ≡ e
err_is d e h = cc

pub not_both : {A : Type 0} (x : A) (e : ImageFault) → done x ≡ failed {A = A} e → ⊥
not_both x e h = cc

pub bind_ok : {A B : Type 0} (r : Result A ImageFault) (f : A → Result B ImageFault) (y : B) → (r >>= f) ≡ Ok y → (x : A) × (r ≡ Ok x) × (f x ≡ Ok y)
bind_ok (Ok x) f y e = (x, refl, e)
bind_ok (Err d) f y e = absurd cc

pub bind_err : {A B : Type 0} (r : Result A ImageFault) (f : A → Result B ImageFault) (e : ImageFault) → (r >>= f) ≡ Err e →
    (r ≡ Err e) ⊎ ((x : A) × (r ≡ Ok x) × (f x ≡ Err e))
bind_err {A} {B} (Ok x) f e h = inr (x, refl, h)
bind_err {A} {B} (Err d) f e h = inl (ap (λ (c : ImageFault). failed {A = A} c) (err_is {A = B} d e h))

pub bind_from : {A B : Type 0} (r : Result A ImageFault) (x : A) (f : A → Result B ImageFault) → r ≡ Ok x → (r >>= f) ≡ f x
bind_from r x f h = ap (λ t. t >>= f) h

pub chosen : {A : Type 0} (b : Bool) (x y z : A) → cond b x y ≡ z → ((b ≡ true) × (x ≡ z)) ⊎ ((b ≡ false) × (y ≡ z))
chosen true x y z e = inl (refl, e)
chosen false x y z e = inr (refl, e)
