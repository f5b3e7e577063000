mod SoFar
