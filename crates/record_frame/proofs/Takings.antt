-- How takings follow one another.
use Rattle.std.proofs.Common.{◌≡◌, ◌≢◌, ℕ, ◌+◌, ◌-◌, ◌≤◌, ◌<◌, List, [], ◌∷◌, ◌++◌, Bool, true, false, Option, Some, None, IfSome, inl, inr, Result, Ok, Err, length, take, drop, replicate, refl, sym, ap, ◌∙◌, arith, append_assoc, append-nil, length-append, length-take-le, take-append-drop}
use Rattle.std.proofs.lemmas.List.{take_at, drop_at, length-replicate}
use Rattle.std.proofs.lemmas.Bool.Decides.{nat_tests}
use Rattle.wr_io.specs.Streams.{LeavesSome}
use Rattle.record_frame.specs.Framing.{FirstRecord, entry, closing, broken, map_entry}
use Rattle.record_frame.specs.Transactions.{first_transaction, first_sized, first_payload}
use Rattle.record_frame.specs.Reading.{Took, Gets, GetsTag, StopsWithin, IsEntry, Decides}
use Rattle.record_frame.specs.declared.error.ReadError.{ReadError}
use Rattle.record_frame.specs.declared.error.ReadError.TheVariants.{Broken, Failed, NoMemory}

-- A failed read took fewer bytes than asked.
pub failed_read : (start new : Option (List ℕ)) (n : ℕ) (out : List ℕ) → IfSome start (λ b. LeavesSome b new n) → IfSome start (λ b. Took b new (Gets {X = Unit {0}} (Err Failed) n [] out))
failed_read None new n out h = tt
failed_read (Some b) new n out h =
    let few : h.taken < n = h.fewer in
    let len : length (take h.taken b) ≡ h.taken = length-take-le h.taken b h.within in
    record { taken = take h.taken b; rest = drop h.taken b; split = sym (take-append-drop h.taken b); now = h.rest; fact = omega arith }

-- One taking after another is a taking.
pub joined : (start mid new : Option (List ℕ)) (P Q R : List ℕ → List ℕ → Type 0)
    → ((t r u s : List ℕ) → r ≡ u ++ s → P t r → Q u s → R (t ++ u) s)
    → IfSome start (λ b. Took b mid P) → IfSome mid (λ b. Took b new Q) → IfSome start (λ b. Took b new R)
joined None mid new P Q R step first second = tt
joined (Some b) mid new P Q R step first second =
    let q = rw first.now at second in
    record {
      taken = first.taken ++ q.taken;
      rest = q.rest;
      split = first.split ∙ ap (λ r. first.taken ++ r) q.split ∙ sym (append_assoc first.taken q.taken q.rest);
      now = q.now;
      fact = step first.taken first.rest q.taken q.rest q.split first.fact q.fact;
    }

-- A taking of which less is said.
pub weaker : (start new : Option (List ℕ)) (P Q : List ℕ → List ℕ → Type 0) → ((t r : List ℕ) → P t r → Q t r)
    → IfSome start (λ b. Took b new P) → IfSome start (λ b. Took b new Q)
weaker None new P Q f h = tt
weaker (Some b) new P Q f h =
    record { taken = h.taken; rest = h.rest; split = h.split; now = h.now; fact = f h.taken h.rest h.fact }

-- nothing was taken
pub nothing_taken : (start : Option (List ℕ)) (P : List ℕ → List ℕ → Type 0) → ((r : List ℕ) → P [] r) → IfSome start (λ b. Took b start P)
nothing_taken None P f = tt
nothing_taken (Some b) P f = record { taken = []; rest = b; split = refl; now = refl; fact = f b }

-- more may be taken
pub stops_more : (few many : ℕ) (P : List ℕ → Type 0) (t r : List ℕ) → few ≤ many → StopsWithin few P t r → StopsWithin many P t r
stops_more few many P t r le (inl l) = inl (omega (arith, l))
stops_more few many P t r le (inr cut) = inr cut

-- what was taken before counts too
pub stops_after : (few more : ℕ) (P Q : List ℕ → Type 0) (t u s : List ℕ) → length t ≤ few → ((tail : List ℕ) → Q (u ++ tail) → P ((t ++ u) ++ tail))
    → StopsWithin more Q u s → StopsWithin (few + more) P (t ++ u) s
stops_after few more P Q t u s le f (inl l) = inl (omega (arith, l, length-append t u))
stops_after few more P Q t u s le f (inr cut) =
    inr (record { ended = cut.ended; tail = cut.tail; whole = f cut.tail cut.whole })

-- the bytes begin with a whole payload
pub payload_whole : (n : ℕ) (t tail : List ℕ) → n ≤ 67108864 → length t ≡ n → first_payload n (t ++ tail) ≡ entry t tail
payload_whole n t tail limit len =
    let long : n ≤ length (t ++ tail) = omega (arith, length-append t tail) in
    let e = take_at t tail n len in
    let f = drop_at t tail n len in
    grind (arith, nat_tests)

-- fewer bytes than a payload don't
pub payload_short : (n : ℕ) (t : List ℕ) → length t < n → first_payload n t ≡ broken
payload_short n t short = grind (arith, nat_tests)

-- more bytes make it one
payload_cut_off : (n : ℕ) (t s : List ℕ) → n ≤ 67108864 → length t < n → s ≡ [] → StopsWithin 0 (IsEntry (first_payload n)) t s
payload_cut_off n t s limit short end =
    let none : ℕ = 0 in
    let more = replicate (n - length t) none in
    let size : length (t ++ more) ≡ n = omega (arith, short, length-append t more, length-replicate (n - length t) none) in
    inr (record { ended = end; tail = more; whole = (t ++ more, ap (first_payload n) (sym (append-nil (t ++ more))) ∙ payload_whole n (t ++ more) [] limit size) })

-- what was taken after a part of a payload makes no whole payload with it
pub payload_cut : (e : ReadError) (n count : ℕ) (found : Unit {0} → List ℕ → FirstRecord (List ℕ)) (before now t r u s : List ℕ) → n ≤ 67108864 → length before + count ≤ n → r ≡ u ++ s → before ≡ t
    → Gets {X = Unit {0}} (Err e) count before now u s → Decides 0 (first_payload n) found (Err e) (t ++ u) s
payload_cut Broken n count found before now t r u s limit room split same got =
    let few : length u < count = got.0 in
    let len = ap length same in
    let short : length (t ++ u) < n = omega (arith, length-append t u) in
    let e = payload_short n (t ++ u) short in
    (e, ap (λ x. first_payload n ((t ++ u) ++ x)) got.1 ∙ ap (first_payload n) (append-nil (t ++ u)) ∙ e, payload_cut_off n (t ++ u) s limit short got.1)
payload_cut Failed n count found before now t r u s limit room split same few =
    let len = ap length same in
    payload_short n (t ++ u) (omega (arith, length-append t u))
payload_cut NoMemory n count found before now t r u s limit room split same few =
    let len = ap length same in
    payload_short n (t ++ u) (omega (arith, length-append t u))

-- A part that was taken leaves the bytes after it to decide.
pub then_decides : {X R : Type 0} (few more : ℕ) (f g : List ℕ → FirstRecord R) (found : X → List ℕ → FirstRecord R) (result : Result X ReadError) (t r u s : List ℕ) → r ≡ u ++ s → length t ≤ few
    → ((tail : List ℕ) → f (t ++ tail) ≡ g tail) → Decides more g found result u s → Decides (few + more) f found result (t ++ u) s
then_decides few more f g found (Ok x) t r u s split le h q = λ tail. ap f (append_assoc t u tail) ∙ h (u ++ tail) ∙ q tail
then_decides few more f g found (Err Broken) t r u s split le h q =
    (h u ∙ q.0, ap f (append_assoc t u s) ∙ h (u ++ s) ∙ q.1, stops_after few more (IsEntry f) (IsEntry g) t u s le (λ tail w. (w.0, ap f (append_assoc t u tail) ∙ h (u ++ tail) ∙ w.1)) q.2)
then_decides few more f g found (Err Failed) t r u s split le h q = h u ∙ q
then_decides few more f g found (Err NoMemory) t r u s split le h q = h u ∙ q

-- An error decides the same of any kind of answer.
pub same_error : {X Y R : Type 0} (most : ℕ) (f : List ℕ → FirstRecord R) (found : X → List ℕ → FirstRecord R) (other : Y → List ℕ → FirstRecord R) (e : ReadError) (t r : List ℕ)
    → Decides most f found (Err e) t r → Decides most f other (Err e) t r
same_error most f found other Broken t r q = q
same_error most f found other Failed t r q = q
same_error most f found other NoMemory t r q = q

-- no tag, no record
pub no_tag : {X : Type 0} (is_allowed : Bool) (found : X → List ℕ → FirstRecord (List ℕ)) (e : ReadError) (t r : List ℕ) → GetsTag (Err e) t r → Decides 5 (first_transaction is_allowed) found (Err e) t r
unfolding first_transaction
no_tag is_allowed found Broken t r q =
    let len = ap length q.0 in
    (ap (first_transaction is_allowed) q.0, ap (first_transaction is_allowed) (ap (λ x. x ++ r) q.0 ∙ q.1), inl (omega (arith, len)))
no_tag is_allowed found Failed t r q = ap (first_transaction is_allowed) q
no_tag is_allowed found NoMemory t r q = ap (first_transaction is_allowed) q

-- fewer bytes than one
pub no_byte : (e : ReadError) (new t r : List ℕ) → Gets {X = Unit {0}} (Err e) 1 [] new t r → GetsTag (Err e) t r
no_byte Broken new [] r q = (refl, q.1)
no_byte Broken new (x ∷ t) r q = absurd (omega (arith, q.0))
no_byte Failed new [] r q = refl
no_byte Failed new (x ∷ t) r q = absurd (omega (arith, q))
no_byte NoMemory new [] r q = refl
no_byte NoMemory new (x ∷ t) r q = absurd (omega (arith, q))

-- a tag is one byte
pub one_byte : (x : ℕ) (t : List ℕ) → t ≡ x ∷ [] → length t ≤ 1
one_byte x t e =
    let len = ap length e in
    omega (arith, len)

-- the closing byte
pub closing_tag : (is_allowed : Bool) (t tail : List ℕ) → t ≡ 90 ∷ [] → first_transaction is_allowed (t ++ tail) ≡ closing tail
unfolding first_transaction
closing_tag is_allowed t tail e = ap (λ x. first_transaction is_allowed (x ++ tail)) e

-- the tag of a transaction, where one is allowed
pub transaction_tag : (is_allowed : Bool) (t tail : List ℕ) → t ≡ 84 ∷ [] → is_allowed ≡ true → first_transaction is_allowed (t ++ tail) ≡ first_sized tail
unfolding first_transaction
transaction_tag is_allowed t tail e is = ap (λ x. first_transaction is_allowed (x ++ tail)) e ∙ ap (λ b. first_transaction b (84 ∷ tail)) is

-- a byte that begins no record
other_byte : (is_allowed : Bool) (x : ℕ) (tail : List ℕ) → x ≢ 90 → (x ≡ 84 → is_allowed ≡ false) → first_transaction is_allowed (x ∷ tail) ≡ broken
unfolding first_transaction
other_byte is_allowed x tail not_z not_t = grind (arith, nat_tests)

-- another tag, or a transaction where none is allowed
pub other_tag : (is_allowed : Bool) (x : ℕ) (t tail : List ℕ) → t ≡ x ∷ [] → x ≢ 90 → (x ≡ 84 → is_allowed ≡ false) → first_transaction is_allowed (t ++ tail) ≡ broken
other_tag is_allowed x t tail e not_z not_t = ap (λ y. first_transaction is_allowed (y ++ tail)) e ∙ other_byte is_allowed x tail not_z not_t

-- What decides an entry decides what a function makes of it.
pub decides_mapped : {X Y A B : Type 0} (most : ℕ) (make : A → B) (first : List ℕ → FirstRecord A) (other : List ℕ → FirstRecord B) (found : X → List ℕ → FirstRecord A) (also : Y → List ℕ → FirstRecord B) (e : ReadError) (t r : List ℕ)
    → ((bytes : List ℕ) → other bytes ≡ map_entry make (first bytes)) → Decides most first found (Err e) t r → Decides most other also (Err e) t r
decides_mapped most make first other found also Broken t r same q = (same t ∙ ap (map_entry make) q.0, same (t ++ r) ∙ ap (map_entry make) q.1, stops q.2)
  where
    stops : StopsWithin most (IsEntry first) t r → StopsWithin most (IsEntry other) t r
    stops (inl l) = inl l
    stops (inr cut) = inr (record { ended = cut.ended; tail = cut.tail; whole = (make cut.whole.0, same (t ++ cut.tail) ∙ ap (map_entry make) cut.whole.1) })
decides_mapped most make first other found also Failed t r same q = same t ∙ ap (map_entry make) q
decides_mapped most make first other found also NoMemory t r same q = same t ∙ ap (map_entry make) q

-- An empty list of bytes holds no record, so a missing tag decides that there is none.
pub none_decides : {X R : Type 0} (most : ℕ) (first : List ℕ → FirstRecord R) (found : X → List ℕ → FirstRecord R) (e : ReadError) (t r : List ℕ) → first [] ≡ broken → GetsTag (Err e) t r → Decides most first found (Err e) t r
none_decides most first found Broken t r none q =
    let len = ap length q.0 in
    (ap first q.0 ∙ none, ap first (ap (λ x. x ++ r) q.0 ∙ q.1) ∙ none, inl (omega (arith, len)))
none_decides most first found Failed t r none q = ap first q ∙ none
none_decides most first found NoMemory t r none q = ap first q ∙ none
