-- the messages in flight as the network keeps them: after one entry more, by number, and how many
use Rattle.std.proofs.Common.{◌==◌, ◌≡◌, ℕ, zero, suc, ◌+◌, ◌≤◌, ◌<◌, Bool, true, false, ◌&&◌, ◌||◌, not, [], ◌∷◌, Some, None, refl, ◌∙◌, ap, arith, if◌then◌else◌, nat_lt, filter, find, length, append-nil, le_refl, zero-add, List, ◌++◌, ap₂, cond, slice_get, option_map}
use Rattle.std.proofs.lemmas.Bool.Decides.{nat_tests}
use Rattle.std.specs.List.{range_with_len}
use Rattle.fy_net.specs.declared.message.Body.{Body}
use Rattle.fy_net.specs.declared.message.Message.{Message}
use Rattle.fy_net.specs.Net.{body_of, without}
use Rattle.fy_cluster.specs.History.{History, sent, is_removed, Step, in_flight, in_flight_count}
use Rattle.fy_cluster.specs.Standing.{numbered, messages_in_flight}

-- ---- filters

filter-same : {X : Type 0} (f g : X → Bool) → ((x : X) → f x ≡ g x) → (xs : List X) → filter f xs ≡ filter g xs
filter-same f g w [] = refl
filter-same f g w (x ∷ xs) = ap₂ (λ b ys. cond b (x ∷ ys) ys) (w x) (filter-same f g w xs)

filter-both : {X : Type 0} (f g : X → Bool) (xs : List X) → filter (λ x. not (f x || g x)) xs ≡ filter (λ x. not (f x)) (filter (λ x. not (g x)) xs)
filter-both f g [] = refl
filter-both f g (x ∷ xs) = at (f x) (g x) refl (filter-both f g xs)
  where
    at : (a b : Bool) → f x ≡ a → filter (λ x. not (f x || g x)) xs ≡ filter (λ x. not (f x)) (filter (λ x. not (g x)) xs)
        → cond (not (a || b)) (x ∷ filter (λ x. not (f x || g x)) xs) (filter (λ x. not (f x || g x)) xs) ≡ filter (λ x. not (f x)) (cond (not b) (x ∷ filter (λ x. not (g x)) xs) (filter (λ x. not (g x)) xs))
    at true true e s = s
    at false true e s = s
    at true false e s = rw e s
    at false false e s = rw e (ap (λ ys. x ∷ ys) s)

filter-append' : {X : Type 0} (f : X → Bool) (xs ys : List X) → filter f (xs ++ ys) ≡ filter f xs ++ filter f ys
filter-append' f [] ys = refl
filter-append' f (x ∷ xs) ys = at (f x) (filter-append' f xs ys)
  where
    at : (b : Bool) → filter f (xs ++ ys) ≡ filter f xs ++ filter f ys → cond b (x ∷ filter f (xs ++ ys)) (filter f (xs ++ ys)) ≡ cond b (x ∷ filter f xs) (filter f xs) ++ filter f ys
    at true e = ap (λ zs. x ∷ zs) e
    at false e = e

pub numbered-append : (k : ℕ) (xs ys : List Body) → numbered k (xs ++ ys) ≡ numbered k xs ++ numbered (k + length xs) ys
numbered-append k [] ys = ap (λ n. numbered n ys) (omega arith)
numbered-append k (x ∷ xs) ys = ap (λ zs. record { number = k; body = x } ∷ zs) (numbered-append (k + 1) xs ys ∙ ap (λ n. numbered (k + 1) xs ++ numbered n ys) (omega arith))

-- ---- one entry more

-- an entry that sends nothing leaves those that it doesn't take out
pub flying_taken : (m : Step) (h : History) → m.sends ≡ [] → messages_in_flight (m ∷ h) ≡ filter (λ x. not (m.removes x.number)) (messages_in_flight h)
flying_taken m h none =
    ap (λ xs. filter (λ (x : Message). not (m.removes x.number || is_removed h x.number)) (numbered 0 (sent h ++ xs))) none
    ∙ ap (λ xs. filter (λ (x : Message). not (m.removes x.number || is_removed h x.number)) (numbered 0 xs)) (append-nil (sent h))
    ∙ filter-both (λ (x : Message). m.removes x.number) (λ (x : Message). is_removed h x.number) (numbered 0 (sent h))

-- one that takes out a single message leaves the others
pub flying_without : (m : Step) (h : History) (n : ℕ) → m.sends ≡ [] → ((k : ℕ) → m.removes k ≡ (k == n)) → messages_in_flight (m ∷ h) ≡ without n (messages_in_flight h)
flying_without m h n none one = flying_taken m h none ∙ filter-same (λ (x : Message). not (m.removes x.number)) (λ (x : Message). not (x.number == n)) (λ x. ap not (one x.number)) (messages_in_flight h)

filter-all : {X : Type 0} (xs : List X) → filter (λ x. not false) xs ≡ xs
filter-all [] = refl
filter-all (x ∷ xs) = ap (λ ys. x ∷ ys) (filter-all xs)

-- one that neither sends nor takes out leaves all
pub flying_still : (m : Step) (h : History) → m.sends ≡ [] → ((k : ℕ) → m.removes k ≡ false) → messages_in_flight (m ∷ h) ≡ messages_in_flight h
flying_still m h none keeps = flying_taken m h none ∙ filter-same (λ (x : Message). not (m.removes x.number)) (λ x. not false) (λ x. ap not (keeps x.number)) (messages_in_flight h) ∙ filter-all (messages_in_flight h)

-- all from a place on that nothing took out
filter-none_out : (h : History) (k : ℕ) → ((n : ℕ) → k ≤ n → is_removed h n ≡ false) → (xs : List Body) → filter (λ x. not (is_removed h x.number)) (numbered k xs) ≡ numbered k xs
filter-none_out h k w [] = refl
filter-none_out h k w (x ∷ xs) = rw (w k (le_refl k)) (ap (λ zs. record { number = k; body = x } ∷ zs) (filter-none_out h (k + 1) (λ n l. w n (omega arith)) xs))

-- one that takes none out adds what it sends, where nothing took out a message before it was sent
pub flying_sent : (m : Step) (h : History) → ((n : ℕ) → m.removes n ≡ false) → ((n : ℕ) → length (sent h) ≤ n → is_removed h n ≡ false)
    → messages_in_flight (m ∷ h) ≡ messages_in_flight h ++ numbered (length (sent h)) m.sends
flying_sent m h keeps early =
    filter-same (λ (x : Message). not (m.removes x.number || is_removed h x.number)) (λ (x : Message). not (is_removed h x.number)) (λ x. ap (λ b. not (b || is_removed h x.number)) (keeps x.number)) (numbered 0 (sent h ++ m.sends))
    ∙ ap (filter (λ (x : Message). not (is_removed h x.number))) (numbered-append 0 (sent h) m.sends)
    ∙ filter-append' (λ (x : Message). not (is_removed h x.number)) (numbered 0 (sent h)) (numbered (0 + length (sent h)) m.sends)
    ∙ ap (λ k. messages_in_flight h ++ filter (λ (x : Message). not (is_removed h x.number)) (numbered k m.sends)) (zero-add (length (sent h)))
    ∙ ap (λ xs. messages_in_flight h ++ xs) (filter-none_out h (length (sent h)) early m.sends)

-- ---- by number

-- numbers from k + 1 on aren't k
none_at : (keep : ℕ → Bool) (n k : ℕ) → n < k → (xs : List Body) → find (λ (x : Message). x.number == n) (filter (λ x. keep x.number) (numbered k xs)) ≡ None
none_at keep n k l [] = refl
none_at keep n k l (x ∷ xs) = at (keep k) (none_at keep n (k + 1) (omega arith) xs)
  where
    other : (k == n) ≡ false
    other = grind (arith, nat_tests)

    at : (b : Bool) → find (λ (x : Message). x.number == n) (filter (λ x. keep x.number) (numbered (k + 1) xs)) ≡ None
        → find (λ (x : Message). x.number == n) (cond b (record { number = k; body = x } ∷ filter (λ x. keep x.number) (numbered (k + 1) xs)) (filter (λ x. keep x.number) (numbered (k + 1) xs))) ≡ None
    at true e = rw other e
    at false e = e

if_same : {X : Type 0} (b : Bool) (x : X) → x ≡ (if b then x else x)
if_same true x = refl
if_same false x = refl

-- the message with a number, where it is kept, is the one of its place
found_at : (keep : ℕ → Bool) (k i n : ℕ) → k + i ≡ n → (xs : List Body) → body_of (filter (λ x. keep x.number) (numbered k xs)) n ≡ (if keep n then slice_get xs i else None)
found_at keep k i n e [] = if_same (keep n) None
found_at keep k zero n e (x ∷ xs) = at (keep k) refl
  where
    same : k ≡ n
    same = omega arith

    hit : (k == n) ≡ true
    hit = grind (arith, nat_tests)

    at : (b : Bool) → keep k ≡ b → option_map (λ (x : Message). x.body) (find (λ x. x.number == n) (cond b (record { number = k; body = x } ∷ filter (λ x. keep x.number) (numbered (k + 1) xs)) (filter (λ x. keep x.number) (numbered (k + 1) xs)))) ≡ (if keep n then Some x else None)
    at true is = rw (← same) (rw is (rw (let one : (k == k) ≡ true = grind (arith, nat_tests) in one) refl))
    at false is = rw (none_at keep n (k + 1) (omega arith) xs, ← same) (rw is refl)
found_at keep k (suc i) n e (x ∷ xs) = at (keep k) (found_at keep (k + 1) i n (omega arith) xs)
  where
    other : (k == n) ≡ false
    other = grind (arith, nat_tests)

    at : (b : Bool) → body_of (filter (λ x. keep x.number) (numbered (k + 1) xs)) n ≡ (if keep n then slice_get xs i else None)
        → option_map (λ (x : Message). x.body) (find (λ x. x.number == n) (cond b (record { number = k; body = x } ∷ filter (λ x. keep x.number) (numbered (k + 1) xs)) (filter (λ x. keep x.number) (numbered (k + 1) xs)))) ≡ (if keep n then slice_get xs i else None)
    at true r = rw other r
    at false r = r

pub past_end : (xs : List Body) (n : ℕ) → nat_lt n (length xs) ≡ false → slice_get xs n ≡ None
past_end [] n l = refl
past_end (x ∷ xs) zero l = absurd (let no : nat_lt 0 (length xs + 1) ≡ true = grind (arith, nat_tests) in grind (arith, nat_tests))
past_end (x ∷ xs) (suc n) l = past_end xs n (grind (arith, nat_tests))

-- what the message in flight with a number says
pub body_flying : (h : History) (n : ℕ) → body_of (messages_in_flight h) n ≡ (if in_flight h n then slice_get (sent h) n else None)
body_flying h n = found_at (λ k. not (is_removed h k)) 0 n n (omega arith) (sent h) ∙ at (not (is_removed h n)) (nat_lt n (length (sent h))) refl
  where
    at : (b l : Bool) → nat_lt n (length (sent h)) ≡ l → (if b then slice_get (sent h) n else None) ≡ (if l && b then slice_get (sent h) n else None)
    at true true e = refl
    at false true e = refl
    at true false e = past_end (sent h) n e
    at false false e = refl

-- ---- how many

kept_count : (f keep : ℕ → Bool) (k : ℕ) (xs : List Body) → ((n : ℕ) → n < k + length xs → f n ≡ keep n) → length (filter (λ (x : Message). keep x.number) (numbered k xs)) ≡ length (filter f (range_with_len k (length xs)))
kept_count f keep k [] w = refl
kept_count f keep k (x ∷ xs) w = rw (w k (omega arith)) (at (keep k) (kept_count f keep (k + 1) xs (λ n l. w n (omega arith))))
  where
    at : (b : Bool) → length (filter (λ (x : Message). keep x.number) (numbered (k + 1) xs)) ≡ length (filter f (range_with_len (k + 1) (length xs)))
        → length (cond b (record { number = k; body = x } ∷ filter (λ (x : Message). keep x.number) (numbered (k + 1) xs)) (filter (λ (x : Message). keep x.number) (numbered (k + 1) xs))) ≡ length (cond b (k ∷ filter f (range_with_len (k + 1) (length xs))) (filter f (range_with_len (k + 1) (length xs))))
    at true e = ap suc e
    at false e = e

pub count_flying : (h : History) → length (messages_in_flight h) ≡ in_flight_count h
count_flying h = kept_count (in_flight h) (λ k. not (is_removed h k)) 0 (sent h) (λ n l. let within : nat_lt n (length (sent h)) ≡ true = grind (arith, nat_tests) in rw within refl)
