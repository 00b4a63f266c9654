-- What is received of the bytes of a piece, up to the end of one packet.
use Rattle.std.proofs.Common.{◌≡◌, ℕ, true, List, [], ◌∷◌, ◌++◌, Option, None, Some, refl, sym, ◌∙◌, ap, subst, append_assoc, append-nil}
use Rattle.std.specs.List.{fold}
use Rattle.milter_fields.specs.declared.fault.WireFault.{WireFault}
use Rattle.milter_fields.specs.Stream.{Frame, IsFrame, IsUnfinished, first_frame, frame_bytes, length_fault}
use Rattle.milter_fields.proofs.StreamLaws.{length_fault-unfinished, prefix-unfinished}
use Rattle.milter_wire.specs.Frames.{frame_reply}
use Rattle.milter_mta_outcome.specs.declared.loss.Loss.{Loss}
use Rattle.milter_mta_outcome.specs.declared.loss.MtaFault.TheVariants.{Wire}
use Rattle.milter_mta_connection.proofs.UnfinishedBytes.{first-packet, no_fault-packet, no_fault_there, no_frame-unfinished, unfinished-before, unfinished-no_packet}
use Rattle.milter_mta.specs.Mta.{FilterConnection, Mta}
use Rattle.milter_mta.specs.Replies.{After, at, fails, framed, goes_on, received, received_byte, unread_is}

-- ---- one byte

abbrev pub with_unread : FilterConnection → List ℕ → FilterConnection
with_unread filter_connection unread = record filter_connection { unread = unread }

one_byte : (filter_connection : FilterConnection) (m : Mta) (x : ℕ) → filter_connection.owed ≡ true
    → received_byte (goes_on (at filter_connection m)) x ≡ unread_is filter_connection (filter_connection.unread ++ x ∷ []) (length_fault (filter_connection.unread ++ x ∷ [])) (first_frame (filter_connection.unread ++ x ∷ [])) (at filter_connection m)
one_byte filter_connection m x owed = rw owed refl

unread_none : (filter_connection : FilterConnection) (m : Mta) (unread : List ℕ) (fault : Option WireFault) (first : Option (Frame × List ℕ)) → fault ≡ None → first ≡ None
    → unread_is filter_connection unread fault first m ≡ goes_on (at (with_unread filter_connection unread) m)
unread_none filter_connection m unread fault first f g = rw (f, g) refl

unread_packet : (filter_connection : FilterConnection) (m : Mta) (unread : List ℕ) (fault : Option WireFault) (first : Option (Frame × List ℕ)) (packet : Frame) → fault ≡ None → first ≡ Some (packet, [])
    → unread_is filter_connection unread fault first m ≡ framed filter_connection.position (frame_reply packet) m
unread_packet filter_connection m unread fault first packet f g = rw (f, g) refl

unread_fault : (filter_connection : FilterConnection) (m : Mta) (unread : List ℕ) (fault : Option WireFault) (first : Option (Frame × List ℕ)) (is : WireFault) → fault ≡ Some is
    → unread_is filter_connection unread fault first m ≡ fails (Wire is) m
unread_fault filter_connection m unread fault first is f = rw f refl

-- ---- more bytes

-- after a loss nothing more is received
pub lost-stays : (m : Mta) (loss : Loss) (bytes : List ℕ) → fold received_byte (record { mta = m; loss = Some loss }) bytes ≡ record { mta = m; loss = Some loss }
lost-stays m loss [] = refl
lost-stays m loss (x ∷ bytes) = lost-stays m loss bytes

-- bytes that begin with no packet are only kept
pub received-unfinished : (bytes unread : List ℕ) (filter_connection : FilterConnection) (m : Mta) → filter_connection.owed ≡ true → IsUnfinished (unread ++ bytes)
    → received (at (with_unread filter_connection unread) m) bytes ≡ goes_on (at (with_unread filter_connection (unread ++ bytes)) m)
received-unfinished [] unread filter_connection m owed u = ap (λ (us : List ℕ). goes_on (at (with_unread filter_connection us) m)) (sym (append-nil unread))
received-unfinished (x ∷ bytes) unread filter_connection m owed u =
    let whole : (unread ++ x ∷ []) ++ bytes ≡ unread ++ x ∷ bytes = append_assoc unread (x ∷ []) bytes in
    let all : IsUnfinished ((unread ++ x ∷ []) ++ bytes) = subst IsUnfinished (sym whole) u in
    let here = unfinished-before (unread ++ x ∷ []) bytes all in
    let step : received_byte (goes_on (at (with_unread filter_connection unread) m)) x ≡ goes_on (at (with_unread filter_connection (unread ++ x ∷ [])) m) =
    one_byte (with_unread filter_connection unread) m x owed
    ∙ unread_none (with_unread filter_connection unread) (at (with_unread filter_connection unread) m) (unread ++ x ∷ []) _ _ (length_fault-unfinished _ here) (no_frame-unfinished _ here) in
    ap (λ (after : After). fold received_byte after bytes) step
    ∙ received-unfinished bytes (unread ++ x ∷ []) filter_connection m owed all
    ∙ ap (λ (us : List ℕ). goes_on (at (with_unread filter_connection us) m)) whole

-- the last byte of a packet is received after some unread bytes
pub record ReceivedPacket (filter_connection : FilterConnection) (m : Mta) (f : Frame) (after : After) : Type 0 where
  pub before : List ℕ
  pub received_is : after ≡ framed filter_connection.position (frame_reply f) (at (with_unread filter_connection before) m)

pub received-packet : (bytes unread : List ℕ) (filter_connection : FilterConnection) (m : Mta) (f : Frame) → filter_connection.owed ≡ true → IsUnfinished unread → IsFrame f → unread ++ bytes ≡ frame_bytes f
    → ReceivedPacket filter_connection m f (received (at (with_unread filter_connection unread) m) bytes)
received-packet [] unread filter_connection m f owed u fits is = absurd (unfinished-no_packet unread f fits u (sym (append-nil unread) ∙ is))
received-packet (x ∷ []) unread filter_connection m f owed u fits is =
    record {
      before = unread;
      received_is =
          one_byte (with_unread filter_connection unread) m x owed
          ∙ unread_packet (with_unread filter_connection unread) (at (with_unread filter_connection unread) m) (unread ++ x ∷ []) _ _ f (no_fault-packet _ f fits is) (first-packet _ f fits is);
    }
received-packet (x ∷ y ∷ bytes) unread filter_connection m f owed u fits is =
    let whole : (unread ++ x ∷ []) ++ y ∷ bytes ≡ unread ++ x ∷ y ∷ bytes = append_assoc unread (x ∷ []) (y ∷ bytes) in
    let here = prefix-unfinished (unread ++ x ∷ []) (y ∷ bytes) f fits (λ none. absurd cc) (whole ∙ is) in
    let step : received_byte (goes_on (at (with_unread filter_connection unread) m)) x ≡ goes_on (at (with_unread filter_connection (unread ++ x ∷ [])) m) =
    one_byte (with_unread filter_connection unread) m x owed
    ∙ unread_none (with_unread filter_connection unread) (at (with_unread filter_connection unread) m) (unread ++ x ∷ []) _ _ (length_fault-unfinished _ here) (no_frame-unfinished _ here) in
    let rest = received-packet (y ∷ bytes) (unread ++ x ∷ []) filter_connection m f owed here fits (whole ∙ is) in
    record { before = rest.before; received_is = ap (λ (after : After). fold received_byte after (y ∷ bytes)) step ∙ rest.received_is }

-- the fault of a length is received with its field's last byte, and what follows is not
pub record ReceivedFault (filter_connection : FilterConnection) (m : Mta) (f : WireFault) (after : After) : Type 0 where
  pub before : List ℕ
  pub received_is : after ≡ fails (Wire f) (at (with_unread filter_connection before) m)

received-fault_here : (bytes unread : List ℕ) (x : ℕ) (filter_connection : FilterConnection) (m : Mta) (f : WireFault) → filter_connection.owed ≡ true → length_fault (unread ++ x ∷ []) ≡ Some f
    → ReceivedFault filter_connection m f (received (at (with_unread filter_connection unread) m) (x ∷ bytes))
received-fault_here bytes unread x filter_connection m f owed is =
    let step : received_byte (goes_on (at (with_unread filter_connection unread) m)) x ≡ fails (Wire f) (at (with_unread filter_connection unread) m) =
    one_byte (with_unread filter_connection unread) m x owed
    ∙ unread_fault (with_unread filter_connection unread) (at (with_unread filter_connection unread) m) (unread ++ x ∷ []) _ _ f is in
    record {
      before = unread;
      received_is = ap (λ (after : After). fold received_byte after bytes) step ∙ lost-stays _ _ bytes;
    }

pub received-fault : (bytes unread : List ℕ) (filter_connection : FilterConnection) (m : Mta) (f : WireFault) → filter_connection.owed ≡ true → IsUnfinished unread → length_fault (unread ++ bytes) ≡ Some f
    → ReceivedFault filter_connection m f (received (at (with_unread filter_connection unread) m) bytes)
received-fault [] unread filter_connection m f owed u is =
    absurd (no_fault_there f (length_fault unread) (ap length_fault (sym (append-nil unread)) ∙ is) (length_fault-unfinished unread u))
received-fault (x ∷ bytes) (a ∷ b ∷ c ∷ d ∷ body) filter_connection m f owed u is = absurd (no_fault_there f (length_fault (a ∷ b ∷ c ∷ d ∷ body)) is u.0)
received-fault (x ∷ bytes) (a ∷ b ∷ c ∷ []) filter_connection m f owed u is = received-fault_here bytes (a ∷ b ∷ c ∷ []) x filter_connection m f owed is
received-fault (x ∷ bytes) [] filter_connection m f owed u is =
    let step = one_byte (with_unread filter_connection []) m x owed ∙ unread_none (with_unread filter_connection []) (at (with_unread filter_connection []) m) (x ∷ []) _ _ refl (no_frame-unfinished (x ∷ []) tt) in
    let rest = received-fault bytes (x ∷ []) filter_connection m f owed tt is in
    record { before = rest.before; received_is = ap (λ (after : After). fold received_byte after bytes) step ∙ rest.received_is }
received-fault (x ∷ bytes) (a ∷ []) filter_connection m f owed u is =
    let step = one_byte (with_unread filter_connection (a ∷ [])) m x owed ∙ unread_none (with_unread filter_connection (a ∷ [])) (at (with_unread filter_connection (a ∷ [])) m) (a ∷ x ∷ []) _ _ refl (no_frame-unfinished (a ∷ x ∷ []) tt) in
    let rest = received-fault bytes (a ∷ x ∷ []) filter_connection m f owed tt is in
    record { before = rest.before; received_is = ap (λ (after : After). fold received_byte after bytes) step ∙ rest.received_is }
received-fault (x ∷ bytes) (a ∷ b ∷ []) filter_connection m f owed u is =
    let step = one_byte (with_unread filter_connection (a ∷ b ∷ [])) m x owed ∙ unread_none (with_unread filter_connection (a ∷ b ∷ [])) (at (with_unread filter_connection (a ∷ b ∷ [])) m) (a ∷ b ∷ x ∷ []) _ _ refl (no_frame-unfinished (a ∷ b ∷ x ∷ []) tt) in
    let rest = received-fault bytes (a ∷ b ∷ x ∷ []) filter_connection m f owed tt is in
    record { before = rest.before; received_is = ap (λ (after : After). fold received_byte after bytes) step ∙ rest.received_is }
