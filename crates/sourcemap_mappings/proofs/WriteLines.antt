-- A text of lines that is extended at the end.
use Rattle.std.proofs.Common.{◌≡◌, ℕ, ◌+◌, ◌-◌, ◌<◌, ◌≤◌, suc, zero, List, [], ◌∷◌, ◌++◌, length, replicate, refl, sym}
use Rattle.std.proofs.Common.{ap, subst, ◌∙◌, ⊎_elim, append_assoc, append-nil, length-append, arith}
use Rattle.std.specs.List.{join_with_byte}
use Rattle.std.proofs.lemmas.Bool.{cases_lt}
use Rattle.std.proofs.lemmas.List.{nil_from_length}
use Rattle.sourcemap_tokens.specs.declared.tokens.RawToken.{RawToken}
use Rattle.sourcemap_mappings.specs.Segment.{semicolon}
use Rattle.sourcemap_mappings.specs.Write.{EachLine, LineByLine, line_count}

pub EachLine-push : (P : ℕ → List ℕ → Type 0) (n : ℕ) (parts : List (List ℕ)) (part : List ℕ)
    → EachLine P n parts → P (n + length parts) part → EachLine P n (parts ++ part ∷ [])
EachLine-push P n [] part each p = (subst (λ (m : ℕ). P m part) (omega arith) p, tt)
EachLine-push P n (q ∷ qs) part each p =
    (each.0, EachLine-push P (n + 1) qs part each.1 (subst (λ (m : ℕ). P m part) (omega arith) p))

pub EachLine-map : (P Q : ℕ → List ℕ → Type 0) (top n : ℕ) (parts : List (List ℕ))
    → ((m : ℕ) (part : List ℕ) → m < top → P m part → Q m part) → n + length parts ≤ top → EachLine P n parts
    → EachLine Q n parts
EachLine-map P Q top n [] f h each = tt
EachLine-map P Q top n (p ∷ ps) f h each =
    (f n p (omega arith) each.0, EachLine-map P Q top (n + 1) ps f (omega arith) each.1)

-- all parts in one text, with a `;` after each part
ended : List (List ℕ) → List ℕ
ended [] = []
ended (part ∷ parts) = part ++ semicolon ∷ ended parts

ended_push : (parts : List (List ℕ)) (part : List ℕ)
    → ended (parts ++ part ∷ []) ≡ ended parts ++ (part ++ semicolon ∷ [])
unfolding ended
ended_push [] part = refl
ended_push (p ∷ ps) part = ap (λ t. p ++ semicolon ∷ t) (ended_push ps part)
    ∙ sym (append_assoc p (semicolon ∷ ended ps) (part ++ semicolon ∷ []))

join_ended : (parts : List (List ℕ)) (last : List ℕ)
    → join_with_byte semicolon (parts ++ last ∷ []) ≡ ended parts ++ last
unfolding ended
join_ended [] last = refl
join_ended (p ∷ []) last = sym (append_assoc p (semicolon ∷ []) last)
join_ended (p ∷ q ∷ ps) last =
    ap (λ t. p ++ semicolon ∷ t) (join_ended (q ∷ ps) last) ∙ sym (append_assoc p (semicolon ∷ ended (q ∷ ps)) last)

-- `text` has one part for each line above line `line`, and a `;` after each part. Each part satisfies `P` for its line
pub record Ended (P : ℕ → List ℕ → Type 0) (line : ℕ) (text : List ℕ) : Type 0 where
  parts : List (List ℕ)
  count : length parts ≡ line
  each : EachLine P 0 parts
  is : text ≡ ended parts

pub Ended-none : (P : ℕ → List ℕ → Type 0) → Ended P 0 []
unfolding ended
Ended-none P = record { parts = []; count = refl; each = tt; is = refl }

pub Ended-map : (P Q : ℕ → List ℕ → Type 0) (line : ℕ) (text : List ℕ)
    → ((m : ℕ) (part : List ℕ) → m < line → P m part → Q m part) → Ended P line text → Ended Q line text
Ended-map P Q line text f e = record {
  parts = e.parts;
  count = e.count;
  each = (let count : length e.parts ≡ line = e.count in EachLine-map P Q line 0 e.parts f (omega arith) e.each);
  is = e.is;
}

Ended-more : (P : ℕ → List ℕ → Type 0) (line : ℕ) (text part : List ℕ) → Ended P line text → P line part
    → Ended P (line + 1) (text ++ (part ++ semicolon ∷ []))
Ended-more P line text part e p =
    let count : length e.parts ≡ line = e.count in
    record {
      parts = e.parts ++ part ∷ [];
      count = length-append e.parts (part ∷ []) ∙ ap (λ n. n + 1) count;
      each = EachLine-push P 0 e.parts part e.each (subst (λ (m : ℕ). P m part) (omega arith) p);
      is = ap (λ t. t ++ (part ++ semicolon ∷ [])) e.is ∙ sym (ended_push e.parts part);
    }

Ended-blank : (P : ℕ → List ℕ → Type 0) (line k : ℕ) (text : List ℕ) → ((m : ℕ) → line ≤ m → P m []) → Ended P line text
    → Ended P (line + k) (text ++ replicate k semicolon)
Ended-blank P line zero text blank e =
    subst (λ (t : List ℕ). Ended P (line + 0) t) (sym (append-nil text))
    (subst (λ (m : ℕ). Ended P m text) (omega arith) e)
Ended-blank P line (suc k) text blank e =
    let more = Ended-more P line text [] e (blank line (omega arith)) in
    let rest = Ended-blank P (line + 1) k (text ++ semicolon ∷ []) (λ m h. blank m (omega arith)) more in
    subst (λ (t : List ℕ). Ended P (line + suc k) t) (append_assoc text (semicolon ∷ []) (replicate k semicolon))
    (subst (λ (m : ℕ). Ended P m ((text ++ semicolon ∷ []) ++ replicate k semicolon)) (omega arith) rest)

-- let `text` hold the lines above line `line` (`Ended`). Let `part` satisfy `P` for line `line`, and let the empty text
-- satisfy `P` for each later line. If `part` and then `k + 1` semicolons are appended to `text`, the new text holds the
-- lines above line `line + 1 + k`: line `line` is `part`, and the next `k` lines are blank
Ended-turn_by : (P : ℕ → List ℕ → Type 0) (line k : ℕ) (text part : List ℕ) → ((m : ℕ) → line < m → P m [])
    → Ended P line text → P line part → Ended P (line + 1 + k) ((text ++ part) ++ replicate (suc k) semicolon)
Ended-turn_by P line k text part blank e p =
    let rest = Ended-blank P (line + 1) k (text
    ++ (part ++ semicolon ∷ [])) (λ m h. blank m (omega arith)) (Ended-more P line text part e p) in
    subst (λ (t : List ℕ). Ended P (line + 1 + k) t)
    (ap (λ t. t ++ replicate k semicolon) (sym (append_assoc text part (semicolon ∷ [])))
    ∙ append_assoc (text ++ part) (semicolon ∷ []) (replicate k semicolon))
    rest

-- let `line < n`, and let `text` hold the lines above line `line` (`Ended`). Let `part` satisfy `P` for line `line`,
-- and let the empty text satisfy `P` for each later line. If `part` and then `n - line` semicolons are appended to
-- `text`, the new text holds the lines above line `n`: line `line` is `part`, and each later line, up to line `n - 1`,
-- is blank
pub Ended-turn : (P : ℕ → List ℕ → Type 0) (line n : ℕ) (text part : List ℕ) → line < n → ((m : ℕ) → line < m → P m [])
    → Ended P line text → P line part → Ended P n ((text ++ part) ++ replicate (n - line) semicolon)
Ended-turn P line n text part h blank e p =
    let at : line + 1 + (n - line - 1) ≡ n = omega arith in
    let lines : suc (n - line - 1) ≡ n - line = omega arith in
    subst (λ (k : ℕ). Ended P n ((text ++ part) ++ replicate k semicolon)) lines
    (subst (λ (m : ℕ). Ended P m ((text ++ part) ++ replicate (suc (n - line - 1)) semicolon)) at
    (Ended-turn_by P line (n - line - 1) text part blank e p))

-- the part of the last line completes the text
pub Ended-last : (P : ℕ → List ℕ → Type 0) (line : ℕ) (text part : List ℕ) (tokens : List RawToken)
    → line + 1 ≡ line_count tokens → Ended P line text → P line part → LineByLine P tokens (text ++ part)
Ended-last P line text part tokens at e p =
    let count : length e.parts ≡ line = e.count in (
      e.parts ++ part ∷ [],
      length-append e.parts (part ∷ []) ∙ ap (λ n. n + 1) count ∙ at,
      EachLine-push P 0 e.parts part e.each (subst (λ (m : ℕ). P m part) (omega arith) p),
      ap (λ t. t ++ part) e.is ∙ sym (join_ended e.parts part),
    )

-- A text whose last line is line `line`: `above` is the earlier lines, each with a `;`, and `here` is the last line.

pub record Reached (P : ℕ → List ℕ → Type 0) (line : ℕ) (text : List ℕ) : Type 0 where
  pub above : List ℕ
  pub here : List ℕ
  pub ends : Ended P line above
  pub on : P line here
  pub is : text ≡ above ++ here

pub Reached-turn : (P : ℕ → List ℕ → Type 0) (line n : ℕ) (text : List ℕ) → line ≤ n → ((m : ℕ) → line < m → P m [])
    → Reached P line text → Reached P n (text ++ replicate (n - line) semicolon)
Reached-turn P line n text h blank r = ⊎_elim
    (λ (past : line < n). record {
      above = text ++ replicate (n - line) semicolon;
      here = [];
      ends = subst (λ (t : List ℕ). Ended P n (t ++ replicate (n - line) semicolon)) (sym r.is)
          (Ended-turn P line n r.above r.here past blank r.ends r.on);
      on = blank n past;
      is = sym (append-nil (text ++ replicate (n - line) semicolon));
    })
    (λ (not_past : n ≤ line).
    let same : line ≡ n = omega arith in
    let no_line : n - line ≡ 0 = omega arith in
    let none : replicate (n - line) semicolon ≡ [] = ap (λ (k : ℕ). replicate k semicolon) no_line in
    let text_is : text ≡ text ++ replicate (n - line) semicolon =
    sym (append-nil text) ∙ ap (λ t. text ++ t) (sym none) in
    subst (λ (t : List ℕ). Reached P n t) text_is (subst (λ (m : ℕ). Reached P m text) same r))
    (cases_lt line n)

pub Reached-more : (P Q : ℕ → List ℕ → Type 0) (line : ℕ) (text added : List ℕ)
    → ((m : ℕ) (part : List ℕ) → m < line → P m part → Q m part)
    → ((part : List ℕ) → P line part → Q line (part ++ added))
    → Reached P line text → Reached Q line (text ++ added)
Reached-more P Q line text added f g r = record {
  above = r.above;
  here = r.here ++ added;
  ends = Ended-map P Q line r.above f r.ends;
  on = g r.here r.on;
  is = ap (λ t. t ++ added) r.is ∙ append_assoc r.above r.here added;
}

pub Reached-last : (P : ℕ → List ℕ → Type 0) (line : ℕ) (text : List ℕ) (tokens : List RawToken)
    → line + 1 ≡ line_count tokens → Reached P line text → LineByLine P tokens text
Reached-last P line text tokens at r =
    subst (λ (t : List ℕ). LineByLine P tokens t) (sym r.is) (Ended-last P line r.above r.here tokens at r.ends r.on)

pub Ended-zero : (P : ℕ → List ℕ → Type 0) (line : ℕ) (text : List ℕ) → line ≡ 0 → Ended P line text → text ≡ []
unfolding ended
Ended-zero P line text at e = e.is ∙ ap ended (nil_from_length e.parts (e.count ∙ at))
