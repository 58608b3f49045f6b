-- The encoded text after one more token.
use Rattle.std.proofs.Common.{◌≡◌, ◌≢◌, ℕ, ◌+◌, ◌-◌, ◌<◌, ◌≤◌, Bool, true, false, cond, List, [], ◌∷◌, ◌++◌, replicate}
use Rattle.std.proofs.Common.{filter, Option, Some, None, refl, sym, ap, subst, ◌∙◌, ⊎_elim, append_assoc, append-nil}
use Rattle.std.proofs.Common.{arith}
use Rattle.std.specs.List.{join_with_byte, last_or, AllByRecursion}
use Rattle.std.specs.Option.{option_map_or}
use Rattle.std.proofs.lemmas.Bool.{cases_lt, cases_eq, le-ltb, eq-eqb, ne_eqb}
use Rattle.sourcemap_tokens.specs.declared.tokens.RawToken.{RawToken}
use Rattle.sourcemap_tokens.specs.Tokens.{without_repeats}
use Rattle.sourcemap_vlq.specs.Vlq.{Spells}
use Rattle.sourcemap_mappings.specs.Segment.{comma, semicolon}
use Rattle.sourcemap_mappings.specs.Write.{is_on, is_above, has_source, has_name, last_field, base, numbers}
use Rattle.sourcemap_mappings.specs.Write.{AreSegments, IsLine, IsWritten}
use Rattle.sourcemap_mappings.specs.Buffer.{Adds}
use Rattle.sourcemap_mappings.specs.WriteSteps.{repeats, gap, at_line, next_base}
use Rattle.sourcemap_mappings.proofs.WriteSums.{IsSmall}
use Rattle.sourcemap_mappings.proofs.WriteTokens.{UpTo, Rises, all_push, cut_at, none_on, filter_push_no}
use Rattle.sourcemap_mappings.proofs.WriteTokens.{filter_push_yes, last_field-push_no, last_field-push_yes}
use Rattle.sourcemap_mappings.proofs.WriteWalk.{IsAtLine, Walked, Walked-none, Walked-repeat, Walked-more, same_list}
use Rattle.sourcemap_mappings.proofs.WriteWalk.{more_list, upto_next, count_is}
use Rattle.sourcemap_mappings.proofs.WriteLines.{Reached, Reached-turn, Reached-more, Reached-last, Ended-none}
use Rattle.sourcemap_mappings.proofs.WriteLines.{Ended-zero}

-- What segments are relative to.

field_by : (p : RawToken → Bool) (f : RawToken → ℕ) (ts : List RawToken) (t : RawToken)
    → cond (p t) (f t) (last_field p f ts) ≡ last_field p f (ts ++ t ∷ [])
field_by p f ts t = by_test (p t) refl where
  by_test : (b : Bool) → p t ≡ b → cond (p t) (f t) (last_field p f ts) ≡ last_field p f (ts ++ t ∷ [])
  by_test true e = ap (λ b. cond b (f t) (last_field p f ts)) e ∙ sym (last_field-push_yes p f ts t e)
  by_test false e = ap (λ b. cond b (f t) (last_field p f ts)) e ∙ sym (last_field-push_no p f ts t e)

pub moved_base : (names : ℕ) (ts : List RawToken) (t : RawToken)
    → next_base names (base names t.dst_line ts) t ≡ base names t.dst_line (ts ++ t ∷ [])
moved_base names ts t =
    let column : t.dst_col ≡ last_field (is_on t.dst_line) (λ u. u.dst_col) (ts ++ t ∷ []) =
    sym (last_field-push_yes (is_on t.dst_line) (λ u. u.dst_col) ts t (eq-eqb t.dst_line t.dst_line refl)) in
    let id = field_by has_source (λ u. u.src_id) ts t in
    let line = field_by has_source (λ u. u.src_line) ts t in
    let index = field_by has_source (λ u. u.src_col) ts t in
    let name = field_by (has_name names) (λ u. u.name_id) ts t in
    cc

pub turned_base : (names line n : ℕ) (ts : List RawToken) → line ≤ n → UpTo line ts
    → at_line (base names line ts) n ≡ base names n ts
turned_base names line n ts h u = ⊎_elim
    (λ (past : line < n).
    let off = ne_eqb line n (λ e. omega arith) in
    let column : last_field (is_on n) (λ t. t.dst_col) ts ≡ 0 =
    ap (λ us. option_map_or (λ t. t.dst_col) (last_or None us) 0) (none_on line n ts u past) in
    ap (λ b. cond b (base names line ts) (record (base names line ts) { dst_line = n; dst_col = 0 })) off
    ∙ ap (λ k. record (base names n ts) { dst_col = k }) (sym column))
    (λ (not_past : n ≤ line).
    let same : line ≡ n = omega arith in
    ap (λ b. cond b (base names line ts) (record (base names line ts) { dst_line = n; dst_col = 0 }))
    (eq-eqb line n same)
    ∙ ap (λ m. base names m ts) same)
    (cases_lt line n)

-- Lines.

pub IsLine-kept : (names m : ℕ) (ts : List RawToken) (t : RawToken) (part : List ℕ) → m < t.dst_line
    → IsLine names ts m part → IsLine names (ts ++ t ∷ []) m part
IsLine-kept names m ts t part h line =
    let above = filter_push_no (is_above m) ts t (le-ltb t.dst_line m (omega arith)) in
    let on = filter_push_no (is_on m) ts t (ne_eqb t.dst_line m (λ e. omega arith)) in (
      line.0,
      subst (λ (us : List RawToken). AreSegments names us (filter (is_on m) (ts ++ t ∷ [])) line.0) (sym above)
          (subst (λ (us : List RawToken). AreSegments names (filter (is_above m) ts) us line.0) (sym on) line.1),
      line.2,
    )

pub IsLine-blank : (names line m : ℕ) (ts : List RawToken) → UpTo line ts → line < m → IsLine names ts m []
IsLine-blank names line m ts u h = (
  [],
  subst (λ (us : List RawToken). AreSegments names (filter (is_above m) ts) us []) (sym (none_on line m ts u h)) refl,
  refl,
)

AreSegments-push : (names : ℕ) (before ts : List RawToken) (t : RawToken) (segments : List (List ℕ)) (segment : List ℕ)
    → AreSegments names before ts segments → Spells (numbers names (base names t.dst_line (before ++ ts)) t) segment
    → AreSegments names before (ts ++ t ∷ []) (segments ++ segment ∷ [])
AreSegments-push names before [] t [] segment are spelled = (
  subst (λ (us : List RawToken). Spells (numbers names (base names t.dst_line us) t) segment)
      (append-nil before) spelled,
  refl,
)
AreSegments-push names before [] t (s ∷ segments) segment are spelled = absurd cc
AreSegments-push names before (u ∷ us) t [] segment are spelled = absurd are
AreSegments-push names before (u ∷ us) t (s ∷ segments) segment are spelled = (
  are.0,
  AreSegments-push names (before ++ u ∷ []) us t segments segment are.1
      (subst (λ (ws : List RawToken). Spells (numbers names (base names t.dst_line ws) t) segment)
      (sym (append_assoc before (u ∷ []) us)) spelled),
)

join_push : (segments : List (List ℕ)) (s segment : List ℕ)
    → join_with_byte comma (s ∷ segments ++ segment ∷ []) ≡ join_with_byte comma (s ∷ segments) ++ comma ∷ segment
join_push [] s segment = refl
join_push (u ∷ us) s segment = ap (λ t. s ++ comma ∷ t) (join_push us u segment)
    ∙ sym (append_assoc s (comma ∷ join_with_byte comma (u ∷ us)) (comma ∷ segment))

-- a comma if the line has tokens
pub comma_tail : List RawToken → List ℕ
comma_tail [] = []
comma_tail (t ∷ ts) = comma ∷ []

joined_more : (names : ℕ) (before ts : List RawToken) (segments : List (List ℕ)) (segment : List ℕ)
    → AreSegments names before ts segments
    → join_with_byte comma (segments ++ segment ∷ []) ≡ join_with_byte comma segments ++ (comma_tail ts ++ segment)
unfolding comma_tail
joined_more names before [] [] segment are = refl
joined_more names before [] (s ∷ segments) segment are = absurd cc
joined_more names before (t ∷ ts) [] segment are = absurd are
joined_more names before (t ∷ ts) (s ∷ segments) segment are = join_push segments s segment

pub IsLine-more : (names : ℕ) (ts : List RawToken) (t : RawToken) (part segment : List ℕ) → Rises ts
    → UpTo t.dst_line ts
    → Spells (numbers names (base names t.dst_line ts) t) segment → IsLine names ts t.dst_line part
    → IsLine names (ts ++ t ∷ []) t.dst_line (part ++ (comma_tail (filter (is_on t.dst_line) ts) ++ segment))
IsLine-more names ts t part segment rises upto spelled line =
    let n = t.dst_line in
    let above = filter_push_no (is_above n) ts t (le-ltb n n (omega arith)) in
    let on = filter_push_yes (is_on n) ts t (eq-eqb n n refl) in
    let here = subst (λ (us : List RawToken). Spells (numbers names (base names n us) t) segment) (sym
    (cut_at n ts rises upto)) spelled in
    let are = AreSegments-push names (filter (is_above n) ts) (filter (is_on n) ts) t line.0 segment line.1 here in (
      line.0 ++ segment ∷ [],
      subst (λ (us : List RawToken). AreSegments names us (filter (is_on n) (ts ++ t ∷ [])) (line.0 ++ segment ∷ []))
          (sym above)
          (subst (λ (us : List RawToken). AreSegments names (filter (is_above n) ts) us (line.0 ++ segment ∷ []))
          (sym on) are),
      ap (λ x. x ++ (comma_tail (filter (is_on n) ts) ++ segment)) line.2
          ∙ sym (joined_more names _ _ line.0 segment line.1),
    )

-- The invariant of encoding.

-- `text` is the encoding of the tokens `done`, and the last line of `text` is the line of `against`. `previous` is the
-- last token of `done`, or `None` if `done` is empty. If the next segment is on the line of `against`, this segment is
-- relative to `against`
pub record Writing (names : ℕ) (done : List RawToken) (previous : Option RawToken) (against : RawToken)
    (text : List ℕ) : Type 0 where
  pub walked : Walked against.dst_line done previous
  pub small : AllByRecursion IsSmall (without_repeats done)
  pub against_is : against ≡ base names against.dst_line (without_repeats done)
  pub reached : Reached (IsLine names (without_repeats done)) against.dst_line text

pub Writing-none : (names : ℕ) → Writing names [] None (base names 0 []) []
Writing-none names = record {
  walked = Walked-none;
  small = tt;
  against_is = refl;
  reached = record { above = []; here = []; ends = Ended-none (IsLine names []); on = ([], refl, refl); is = refl };
}

pub Writing-repeat : (names : ℕ) (done : List RawToken) (previous : Option RawToken) (against : RawToken)
    (text : List ℕ) (t : RawToken)
    → repeats previous t ≡ true → Writing names done previous against text
    → Writing names (done ++ t ∷ []) (Some t) against text
Writing-repeat names done previous against text t e w =
    let same = same_list against.dst_line done previous t e w.walked in
    record {
      walked = Walked-repeat against.dst_line done previous t e w.walked;
      small = subst (λ (ts : List RawToken). AllByRecursion IsSmall ts) same w.small;
      against_is = subst (λ (ts : List RawToken). against ≡ base names against.dst_line ts) same w.against_is;
      reached = subst (λ (ts : List RawToken). Reached (IsLine names ts) against.dst_line text) same w.reached;
    }

-- let `ts` be the tokens written so far, up to `line`. The gap before `t` is one `;` for each line after `line`, up to
-- the line of `t`, and then a comma if `ts` has tokens on the line of `t`
gap_is : (line : ℕ) (ts : List RawToken) (previous : Option RawToken) (t : RawToken) → line ≤ t.dst_line → UpTo line ts
    → IsAtLine line ts previous
    → gap previous line t ≡ replicate (t.dst_line - line) semicolon ++ comma_tail (filter (is_on t.dst_line) ts)
unfolding comma_tail
gap_is line ts None t h u s =
    sym (append-nil (replicate (t.dst_line - line) semicolon))
    ∙ ap (λ (us : List RawToken). replicate (t.dst_line - line) semicolon ++ comma_tail (filter (is_on t.dst_line) us))
    (sym s.1)
gap_is line ts (Some p) t h u s = ⊎_elim
    (λ (same : p.dst_line ≡ t.dst_line).
    let no_line : t.dst_line - line ≡ 0 = (let on : p.dst_line ≡ line = s.0 in omega arith) in
    let is_line : line ≡ t.dst_line = sym s.0 ∙ same in
    let full : filter (is_on t.dst_line) ts ≡ s.1.0 ∷ s.1.1 =
    subst (λ (n : ℕ). filter (is_on n) ts ≡ s.1.0 ∷ s.1.1) is_line s.1.2 in
    ap (λ b. cond b (comma ∷ []) (replicate (t.dst_line - line) semicolon)) (eq-eqb p.dst_line t.dst_line same)
    ∙ ap (λ us. comma_tail us) (sym full)
    ∙ ap (λ (k : ℕ). replicate k semicolon ++ comma_tail (filter (is_on t.dst_line) ts)) (sym no_line))
    (λ (off : p.dst_line ≢ t.dst_line).
    let past : line < t.dst_line = (let on : p.dst_line ≡ line = s.0 in omega arith) in
    ap (λ b. cond b (comma ∷ []) (replicate (t.dst_line - line) semicolon)) (ne_eqb p.dst_line t.dst_line off)
    ∙ sym (append-nil (replicate (t.dst_line - line) semicolon))
    ∙ ap (λ us. replicate (t.dst_line - line) semicolon ++ comma_tail us) (sym (none_on line t.dst_line ts u past)))
    (cases_eq p.dst_line t.dst_line)

-- let the lines of `ts` never decrease, let no token of `ts` be after line `line`, and let `IsAtLine line ts previous`
-- hold. Let `text` be the encoding of `ts` up to and including line `line`. Let `t` be on line `line` or on a later
-- line. If the gap before `t` and the segment of `t` are appended to `text`, the new text is the encoding of `ts` and
-- `t` up to and including the line of `t`
grown : (names line : ℕ) (ts : List RawToken) (previous : Option RawToken) (t : RawToken) (text digits : List ℕ)
    → line ≤ t.dst_line → Rises ts → UpTo line ts → IsAtLine line ts previous
    → Spells (numbers names (base names t.dst_line ts) t) digits → Reached (IsLine names ts) line text
    → Reached (IsLine names (ts ++ t ∷ [])) t.dst_line ((text ++ gap previous line t) ++ digits)
grown names line ts previous t text digits h rises u s spelled r =
    let n = t.dst_line in
    let ends : List ℕ = replicate (n - line) semicolon in
    let some_comma = comma_tail (filter (is_on n) ts) in
    let upto = upto_next line n ts h u in
    let turned = Reached-turn (IsLine names ts) line n text h (λ m k. IsLine-blank names line m ts u k) r in
    let more = Reached-more (IsLine names ts) (IsLine names (ts ++ t ∷ [])) n (text ++ ends) (some_comma ++ digits)
    (λ m part k line_is. IsLine-kept names m ts t part k line_is)
    (λ part line_is. IsLine-more names ts t part digits rises upto spelled line_is)
    turned in
    subst (λ (x : List ℕ). Reached (IsLine names (ts ++ t ∷ [])) n x)
    (append_assoc text ends (some_comma ++ digits)
    ∙ ap (λ x. text ++ x) (sym (append_assoc ends some_comma digits))
    ∙ ap (λ x. text ++ (x ++ digits)) (sym (gap_is line ts previous t h u s))
    ∙ sym (append_assoc text (gap previous line t) digits))
    more

pub Writing-more : (names : ℕ) (done : List RawToken) (previous : Option RawToken) (against : RawToken)
    (text new : List ℕ) (t : RawToken)
    → repeats previous t ≡ false → against.dst_line ≤ t.dst_line
    → Adds (numbers names (at_line against t.dst_line) t) (text ++ gap previous against.dst_line t) new
    → IsSmall t → Writing names done previous against text
    → Writing names (done ++ t ∷ []) (Some t) (next_base names (at_line against t.dst_line) t) new
Writing-more names done previous against text new t e h adds small w =
    let ts = without_repeats done in
    let line = against.dst_line in
    let n = t.dst_line in
    let more = more_list line done previous t e w.walked in
    let taken : at_line against n ≡ base names n ts =
    ap (λ (b : RawToken). at_line b n) w.against_is ∙ turned_base names line n ts h w.walked.upto in
    let spelled = subst (λ (b : RawToken). Spells (numbers names b t) adds.digits) taken adds.spelled in
    let reached = subst (λ (x : List ℕ). Reached (IsLine names (ts ++ t ∷ [])) n x) (sym adds.added)
    (grown names line ts previous t text adds.digits h w.walked.rises w.walked.upto w.walked.is_at_line spelled
    w.reached) in
    let last_is = ap (λ (b : RawToken). next_base names b t) taken ∙ moved_base names ts t in
    record {
      walked = Walked-more line done previous t e h w.walked;
      small = subst (λ (us : List RawToken). AllByRecursion IsSmall us) more (all_push IsSmall ts t w.small small);
      against_is = subst (λ (us : List RawToken). next_base names (at_line against n) t ≡ base names n us) more last_is;
      reached = subst (λ (us : List RawToken). Reached (IsLine names us) n new) more reached;
    }

-- The whole text.

nothing_yet : (names : ℕ) (line : ℕ) (ts : List RawToken) (text : List ℕ) → line ≡ 0 → ts ≡ []
    → Reached (IsLine names ts) line text → text ≡ []
nothing_yet names line ts text at none r =
    let line_is : IsLine names [] line r.here = subst (λ (us : List RawToken). IsLine names us line r.here) none r.on in
    let here : r.here ≡ [] = line_is.2 ∙ ap (join_with_byte comma) line_is.1 in
    let above : r.above ≡ [] = Ended-zero (IsLine names ts) line r.above at r.ends in
    r.is ∙ ap (λ x. x ++ r.here) above ∙ here

pub Writing-end : (names : ℕ) (tokens : List RawToken) (previous : Option RawToken) (against : RawToken) (text : List ℕ)
    → Writing names tokens previous against text → IsWritten names tokens text
Writing-end names tokens None against text w = (
  [],
  sym (ap (λ o. option_map_or (λ t. t.dst_line + 1) o 0) (sym w.walked.last)),
  tt,
  nothing_yet names against.dst_line
      (without_repeats tokens) text w.walked.is_at_line.0 w.walked.is_at_line.1 w.reached,
)
Writing-end names tokens (Some p) against text w =
    Reached-last (IsLine names (without_repeats tokens)) against.dst_line text tokens
    (count_is against.dst_line tokens p w.walked) w.reached
