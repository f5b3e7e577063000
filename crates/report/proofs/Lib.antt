mod HexDigits
