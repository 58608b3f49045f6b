-- Scope mappings encode at most one list of offsets, and none if a part is invalid.
use Rattle.std.proofs.Common.{◌≡◌, ℕ, suc, zero, List, [], ◌∷◌, ◌⊎◌, inl, inr, Any, Option, Some, None, sym, ap, ap₂}
use Rattle.std.proofs.Common.{◌∙◌, refl, subst, ℤ, arith}
use Rattle.sourcemap_vlq.specs.Vlq.{Reads}
use Rattle.sourcemap_mappings.specs.Segment.{Segment, parts_of}
use Rattle.sourcemap_mappings.specs.Read.{lines_of}
use Rattle.sourcemap_hermes_scopes.specs.declared.offsets.HermesScopeOffset.{HermesScopeOffset}
use Rattle.sourcemap_hermes_scopes.specs.Offsets.{offsets_of_lines, SegmentsRead, ScopeLinesRead, IsUnreadable}
use Rattle.sourcemap_hermes_scopes.specs.Offsets.{StandsFor}
use Rattle.sourcemap_mappings.proofs.ReadAnswers.{Reads-same, Reads-sound}

Any-first : {A : Type 0} (P : A → Type 0) (x : A) (xs : List A) → Any P (x ∷ xs) → P x ⊎ Any P xs
Any-first P x xs (zero, y, within, at, p) = inl (subst P (sym at) p)
Any-first P x xs (suc k, y, within, at, p) = inr (k, y, (omega arith), at, p)

Any-nil : {A : Type 0} (P : A → Type 0) → Any P [] → ⊥
Any-nil P (k, y, within, at, p) = omega arith

Segment-same : (c : ℕ) (cs : List ℕ) (s t : Segment) → s.index ≡ 0 → t.index ≡ 0 → Reads (c ∷ cs) s.numbers
    → Reads (c ∷ cs) t.numbers → s ≡ t
Segment-same c cs s t at at' h k =
    let make : ℕ → List ℤ → Segment = λ p ns. record { index = p; numbers = ns } in
    ap₂ make (at ∙ sym at') (Reads-same c cs s.numbers t.numbers h k)

SegmentsRead-same : (parts : List (List ℕ)) (ss ts : List Segment) → SegmentsRead parts ss
    → SegmentsRead parts ts → ss ≡ ts
SegmentsRead-same [] ss ts h k = h ∙ sym k
SegmentsRead-same ([] ∷ parts) ss ts h k = SegmentsRead-same parts ss ts h k
SegmentsRead-same ((c ∷ cs) ∷ parts) [] ts h k = absurd h
SegmentsRead-same ((c ∷ cs) ∷ parts) (s ∷ ss) [] h k = absurd k
SegmentsRead-same ((c ∷ cs) ∷ parts) (s ∷ ss) (t ∷ ts) h k =
    ap₂ ◌∷◌ (Segment-same c cs s t h.0 k.0 h.1 k.1) (SegmentsRead-same parts ss ts h.2 k.2)

SegmentsRead-sound : (parts : List (List ℕ)) (ss : List Segment) → SegmentsRead parts ss → Any IsUnreadable parts → ⊥
SegmentsRead-sound [] ss h any = Any-nil IsUnreadable any
SegmentsRead-sound ([] ∷ parts) ss h any = elim (Any-first IsUnreadable [] parts any) [
  | inl first ↦ first.0 refl
  | inr later ↦ SegmentsRead-sound parts ss h later
]
SegmentsRead-sound ((c ∷ cs) ∷ parts) [] h any = absurd h
SegmentsRead-sound ((c ∷ cs) ∷ parts) (s ∷ ss) h any = elim (Any-first IsUnreadable (c ∷ cs) parts any) [
  | inl first ↦ Reads-sound c cs s.numbers first.1.0 h.1 first.1.1
  | inr later ↦ SegmentsRead-sound parts ss h.2 later
]

ScopeLinesRead-same : (lines : List (List ℕ)) (decoded_lines other : List (List Segment))
    → ScopeLinesRead lines decoded_lines → ScopeLinesRead lines other → decoded_lines ≡ other
ScopeLinesRead-same [] decoded_lines other h k = h ∙ sym k
ScopeLinesRead-same (line ∷ lines) [] other h k = absurd h
ScopeLinesRead-same (line ∷ lines) (ss ∷ decoded_lines) [] h k = absurd k
ScopeLinesRead-same (line ∷ lines) (ss ∷ decoded_lines) (ts ∷ other) h k =
    ap₂ ◌∷◌ (SegmentsRead-same (parts_of line) ss ts h.0 k.0) (ScopeLinesRead-same lines decoded_lines other h.1 k.1)

ScopeLinesRead-sound : (lines : List (List ℕ)) (decoded_lines : List (List Segment))
    → ScopeLinesRead lines decoded_lines → Any (λ line. Any IsUnreadable (parts_of line)) lines → ⊥
ScopeLinesRead-sound [] decoded_lines h any = Any-nil (λ line. Any IsUnreadable (parts_of line)) any
ScopeLinesRead-sound (line ∷ lines) [] h any = absurd h
ScopeLinesRead-sound (line ∷ lines) (ss ∷ decoded_lines) h any =
    elim (Any-first (λ line. Any IsUnreadable (parts_of line)) line lines any) [
      | inl first ↦ SegmentsRead-sound (parts_of line) ss h.0 first
      | inr later ↦ ScopeLinesRead-sound lines decoded_lines h.1 later
    ]

pub StandsFor-same : (text : List ℕ) (a b : Option (List HermesScopeOffset)) → StandsFor text a
    → StandsFor text b → a ≡ b
StandsFor-same text (Some os) (Some ps) (decoded_lines, reads, is) (other, reads', is') =
    ap Some
    (is ∙ ap (offsets_of_lines []) (ScopeLinesRead-same (lines_of text) decoded_lines other reads reads') ∙ sym is')
StandsFor-same text (Some os) None (decoded_lines, reads, is) any =
    absurd (ScopeLinesRead-sound (lines_of text) decoded_lines reads any)
StandsFor-same text None (Some os) any (decoded_lines, reads, is) =
    absurd (ScopeLinesRead-sound (lines_of text) decoded_lines reads any)
StandsFor-same text None None h k = refl
