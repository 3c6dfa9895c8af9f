-- messages are sent one after another
use Rattle.std.proofs.Common.{◌≡◌, ℕ, zero, suc, ◌+◌, ◌<◌, ◌≤◌, List, [], ◌∷◌, ◌++◌, length, map, take, slice_get, Some, refl, sym, ◌∙◌, ap, ap₂, arith, append_assoc, length-append, add-one}
use Rattle.std.proofs.lemmas.List.{length-map, length-take-le}
use Rattle.fy_net.specs.declared.message.Body.{Body}
use Rattle.fy_net.specs.declared.message.Message.{Message}
use Rattle.fy_net.specs.Net.{NetState, with_sent}
use Rattle.fy_cluster.specs.Standing.{numbered, Sends}
use Rattle.fy_cluster.proofs.Flights.{numbered-append}

pub sent_more : (first net : NetState) (bodies : List Body) (b : Body) → 0 < net.room → Sends first bodies net → Sends first (bodies ++ b ∷ []) (with_sent b net)
sent_more first net bodies b room k = record {
  in_flight = ap₂ (λ (xs : List Message) (n : ℕ). xs ++ record { number = n; body = b } ∷ []) k.in_flight k.count ∙ append_assoc first.in_flight (numbered first.sent bodies) _ ∙ ap (λ xs. first.in_flight ++ xs) (sym (numbered-append first.sent bodies (b ∷ [])));
  count = let c = k.count in let l : length (bodies ++ b ∷ []) ≡ length bodies + 1 = length-append bodies (b ∷ []) in omega arith;
  clock = k.clock;
  until = k.until;
  room = let r = k.room in let l : length (bodies ++ b ∷ []) ≡ length bodies + 1 = length-append bodies (b ∷ []) in omega arith;
}

pub map-push : {X Y : Type 0} (f : X → Y) (xs : List X) (x : X) → map f (xs ++ x ∷ []) ≡ map f xs ++ f x ∷ []
map-push f [] x = refl
map-push f (y ∷ xs) x = ap (λ ys. f y ∷ ys) (map-push f xs x)

pub take-push : {X : Type 0} (xs : List X) (i : ℕ) (x : X) → slice_get xs i ≡ Some x → take (suc i) xs ≡ take i xs ++ x ∷ []
take-push [] i x e = absurd (cc)
take-push (y ∷ xs) zero x e = let same : y ≡ x = cc in ap (λ z. z ∷ []) same
take-push (y ∷ xs) (suc i) x e = ap (λ ys. y ∷ ys) (take-push xs i x e)

-- one more of those that a list asks to send
pub sent_next : {X : Type 0} (f : X → Body) (xs : List X) (first net next : NetState) (i : ℕ) (x : X) → slice_get xs i ≡ Some x → 0 < net.room → next ≡ with_sent (f x) net → Sends first (map f (take i xs)) net → Sends first (map f (take (i + 1) xs)) next
sent_next f xs first net next i x e room is k =
    let more : map f (take (i + 1) xs) ≡ map f (take i xs) ++ f x ∷ [] = ap (λ n. map f (take n xs)) (add-one i) ∙ ap (map f) (take-push xs i x e) ∙ map-push f (take i xs) x in
    rw (is, more) (sent_more first net (map f (take i xs)) (f x) room k)

pub room_left : {X : Type 0} (f : X → Body) (xs : List X) (first net : NetState) (i : ℕ) → i < length xs → length xs ≤ first.room → Sends first (map f (take i xs)) net → 0 < net.room
room_left f xs first net i l room k = let r = k.room in let n : length (map f (take i xs)) ≡ i = length-map (take i xs) f ∙ length-take-le i xs (omega arith) in omega arith
