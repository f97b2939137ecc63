-- Filling a slice, and writing a piece, in parts.
use Rattle.std.proofs.Common.{◌≡◌, ℕ, ◌+◌, ◌-◌, ◌≤◌, ◌<◌, List, [], ◌++◌, Option, Some, None, IfSome, length, take, drop, sym, ap, ◌∙◌, arith, append_assoc, length-append, length-drop, length-take-le, drop-drop, take-add}
use Rattle.std.proofs.Math.Seq.{take-append-add}
use Rattle.std.proofs.lemmas.List.{take-append-le, take_rest}
use Rattle.std.proofs.lemmas.Slice.{take-put_mid_below}
use borrow.Rule.Slice.PartMut.{put_mid, post_of}
use Rattle.wr_io.specs.Streams.{ReadsFrom, ReadsExactly, WritesPart}

-- so many bytes were put, and the others are left
pub record HasRead (bytes : List ℕ) (new : Option (List ℕ)) (out : List ℕ) (filled : ℕ) : Type 0 where
  pub within : filled ≤ length bytes
  pub put : take filled out ≡ take filled bytes
  pub rest : new ≡ Some (drop filled bytes)

-- the front of a slice whose back was written
take_front : (a k n : ℕ) (xs ys : List ℕ) → a ≤ length xs → n ≤ length ys → take (a + n) (put_mid a k xs ys) ≡ take a xs ++ take n ys
take_front a k n xs ys h l =
    let len : length (take a xs) ≡ a = length-take-le a xs h in
    ap (λ m. take (m + n) (put_mid a k xs ys)) (sym len) ∙ take-append-add (take a xs) (ys ++ post_of a k xs) n
    ∙ ap (λ zs. take a xs ++ zs) (take-append-le n ys (post_of a k xs) l)

-- one more read goes on where the earlier ones ended
pub read_more : (start mid new : Option (List ℕ)) (out part : List ℕ) (filled count : ℕ) → filled ≤ length out → count ≤ length part
    → IfSome start (λ b. HasRead b mid out filled) → IfSome mid (λ b. ReadsFrom b new part count)
    → IfSome start (λ b. HasRead b new (put_mid filled (length out - filled) out part) (filled + count))
read_more None mid new out part filled count h l was now = tt
read_more (Some b) mid new out part filled count h l was now =
    let r = rw was.rest at now in
    let short : count ≤ length (drop filled b) = r.within in
    let within : filled ≤ length b = was.within in
    record {
      within = omega (arith, length-drop filled b);
      put = take_front filled (length out - filled) count out part h l ∙ ap (λ zs. zs ++ take count part) was.put
          ∙ ap (λ zs. take filled b ++ zs) r.put ∙ sym (take-add filled count b);
      rest = r.rest ∙ ap Some (drop-drop count filled b);
    }

-- one more write goes on where the earlier ones ended
pub write_more : (start mid new : Option (List ℕ)) (piece : List ℕ) (done count : ℕ)
    → IfSome start (λ b. mid ≡ Some (b ++ take done piece)) → IfSome mid (λ b. WritesPart b new (take (length piece - done) (drop done piece)) count)
    → IfSome start (λ b. new ≡ Some (b ++ take (done + count) piece))
write_more None mid new piece done count was now = tt
write_more (Some b) mid new piece done count was now =
    let r = rw (was, take_rest piece done) at now in
    r ∙ ap Some (append_assoc b (take done piece) (take count (drop done piece)) ∙ ap (λ zs. b ++ zs) (sym (take-add done count piece)))

-- a slice has room for its front and for what was written behind it
pub room_stays : (a k : ℕ) (xs ys : List ℕ) → a ≤ length xs → a + length ys ≤ length (put_mid a k xs ys)
room_stays a k xs ys h =
    omega (arith, length-append (take a xs) (ys ++ post_of a k xs), length-append ys (post_of a k xs), length-take-le a xs h)

-- a read of none at the end of input
pub read_end : (start mid new : Option (List ℕ)) (out part : List ℕ) (filled count : ℕ) → filled < length out → length part ≡ length out - filled → count ≡ 0
    → IfSome start (λ b. HasRead b mid out filled) → IfSome mid (λ b. ReadsFrom b new part count)
    → IfSome start (λ b. ReadsExactly b new (put_mid filled (length out - filled) out part) filled)
read_end None mid new out part filled count h l z was now = tt
read_end (Some b) mid new out part filled count h l z was now =
    let r = rw was.rest at now in
    let low : filled ≤ length out = omega arith in
    let room : 0 < length part = omega arith in
    let none : drop filled b ≡ [] = r.end z room in
    let short : length (drop filled b) ≡ 0 = ap length none in
    let within : filled ≤ length b = was.within in
    let front = room_stays filled (length out - filled) out part low in
    record {
      count = omega (arith, length-drop filled b);
      put = take-put_mid_below filled (length out - filled) out part filled (omega arith) low ∙ was.put;
      rest = r.rest ∙ ap (λ n. Some (drop n (drop filled b))) z;
    }
